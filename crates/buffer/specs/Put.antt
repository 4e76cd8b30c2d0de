-- Appending to a lent output at a position: whole where it fits, else nothing, and the position is then past the end.
use Rattle.std.specs.Prelude.{ℕ, ◌+◌, ◌≤◌, ◌≡◌, List, length}
use Rattle.std.proofs.lemmas.List.Edits.{sets}
use Rattle.buffer.specs.Pick.{pick}
use Rattle.buffer.specs.Stretch.{fits}

-- the output with the bytes `bs` at `at`
unfoldable pub placed : List ℕ → ℕ → List ℕ → List ℕ
placed out at bs = pick (fits (length out) at (length bs)) (sets out at bs) out

-- the position after `n` bytes at `at`, in an output of `room` bytes: one past its end where they do not fit
unfoldable pub after : ℕ → ℕ → ℕ → ℕ
after room at n = pick (fits room at n) (at + n) (room + 1)

-- what a call that appends `bs` leaves and answers
pub record Put (out : List ℕ) (at : ℕ) (bs : List ℕ) (left : List ℕ) (next : ℕ) : Type 0 where
  pub bytes : left ≡ placed out at bs
  pub position : next ≡ after (length out) at (length bs)

-- what is left and answered where `bs` may be appended in pieces: where it does not fit whole, only the position is told
pub record Appended (out : List ℕ) (at : ℕ) (bs : List ℕ) (left : List ℕ) (next : ℕ) : Type 0 where
  pub position : next ≡ after (length out) at (length bs)
  pub bytes : next ≤ length out → left ≡ sets out at bs
  pub kept : length left ≡ length out
