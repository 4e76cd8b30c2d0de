-- What is proved of the answers that wait, document 02, Q-1: the earliest due is taken out, first kept on a tie; the others wait on, in their order, and
-- hold what they held.
use Rattle.std.specs.Prelude.{ℕ, suc, ◌+◌, ◌≤◌, ◌<◌, ◌≡◌, List, ◌++◌, None, Some, true, false, length, take, drop}
use Rattle.schedule.specs.declared.Length.{Length}
use Rattle.schedule.specs.declared.Point.{Point}
use Rattle.state.specs.Waiting.{held_answers, place_at}
use Rattle.state.specs.declared.Waiting.{Waiting}
use Rattle.state.specs.declared.What.{What}
use Rattle.waiting.specs.Sized.{WaitingSized}
use Rattle.waiting.specs.Waiting.{is_full, url_in, held_in, kept, kept_bytes, over_at, due_of, left_by}
use Rattle.waiting.specs.declared.Due.{Due}

-- the answer of a place among those held is taken out
pub record TakenAt (w : Waiting) (time : Point) (d : Due) (i : ℕ) : Type 0 where
  pub held : i < w.count
  pub answer : d.answer ≡ place_at w.list i
  -- due, the earliest, and the first kept of those that are due at once
  pub due : over_at (place_at w.list i) ≤ time.0
  pub earliest : (j : ℕ) → j < w.count → over_at (place_at w.list i) ≤ over_at (place_at w.list j)
  pub first : (j : ℕ) → j < i → over_at (place_at w.list i) < over_at (place_at w.list j)
  -- the others stay, in their order
  pub others : held_answers d.left ≡ take i (held_answers w) ++ drop (suc i) (held_answers w)

pub record TakesEarliest : Type 0 where
  -- none is taken only where none is due, and nothing changes then
  pub none : (w : Waiting) (time : Point) → length w.list ≡ 4 → w.count ≤ 4 → due_of w time ≡ None
      → ((j : ℕ) → j < w.count → time.0 < over_at (place_at w.list j)) × (left_by w (due_of w time) ≡ w)
  pub one : (w : Waiting) (time : Point) → length w.list ≡ 4 → w.count ≤ 4 → (d : Due) → due_of w time ≡ Some d → (i : ℕ) × TakenAt w time d i

-- what is kept of an answer is there until it is taken out: its URL and what it holds stand in its slot, and those of the others stay as they were
pub record KeptIn (w : Waiting) (answers : List ℕ) (from : Point) (wait : Length) (what : What) (url bytes : List ℕ) : Type 0 where
  pub count : (kept w from wait what url bytes).count ≡ w.count + 1
  pub answer : place_at (kept w from wait what url bytes).list w.count
      ≡ record { from = from; wait = wait; what = what; url = length url; held = length bytes; slot = (place_at w.list w.count).slot }
  pub own-url : url_in (place_at (kept w from wait what url bytes).list w.count) (kept_bytes w answers url bytes) ≡ url
  pub own : held_in (place_at (kept w from wait what url bytes).list w.count) (kept_bytes w answers url bytes) ≡ bytes
  pub places : (i : ℕ) → i < w.count → place_at (kept w from wait what url bytes).list i ≡ place_at w.list i
  pub urls : (i : ℕ) → i < w.count → url_in (place_at w.list i) (kept_bytes w answers url bytes) ≡ url_in (place_at w.list i) answers
  pub others : (i : ℕ) → i < w.count → held_in (place_at w.list i) (kept_bytes w answers url bytes) ≡ held_in (place_at w.list i) answers

pub record KeepsBytes : Type 0 where
  -- where a place is free and the sizes are kept to
  pub free : (w : Waiting) (answers : List ℕ) (from : Point) (wait : Length) (what : What) (url bytes : List ℕ) → WaitingSized w → is_full w ≡ false
      → length answers ≡ 4736 → length url ≤ 128 → length bytes ≤ 1056 → KeptIn w answers from wait what url bytes
  -- where four wait nothing is kept
  pub full : (w : Waiting) (answers : List ℕ) (from : Point) (wait : Length) (what : What) (url bytes : List ℕ) → is_full w ≡ true
      → (kept w from wait what url bytes ≡ w) × (kept_bytes w answers url bytes ≡ answers)
