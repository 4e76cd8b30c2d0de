-- The cycle of `message::read_field` and `read_message`: what a field holds has a level less than its message, so the measure is twice the levels, and one more for a field.
use Prim.Native.Nat.{ℕ, ◌+◌, ◌*◌, ◌-◌}
use mathlib.Core.Path.{◌≡◌}
use mathlib.Core.List.{List}
use lib.ListN.{length}
use Rattle.protobuf.specs.Field.{fields_from}
use Rattle.message.specs.Read.{message_read}
use Rattle.message.specs.declared.Reading.{Reading}
use Rattle.message.proofs.ReadLaws.{remaining}
use Rattle.message.proofs.+read_field_read_message.Given as goal

-- the rest of the fields over what was found of those before
pub record Walks (depth : ℕ) (table cells₀ : List ℕ) (base : ℕ) (s : List ℕ) (told : Reading) (cells : List ℕ) (at : ℕ) : Type 0 where
  pub walked : message_read depth table cells₀ base s ≡ remaining (message_read (depth - 1)) table base s told cells (fields_from s at)
  pub long : length cells ≡ length table

abbrev pub decreases-read_field : goal.decreases-read_field
decreases-read_field l = 2 * l.depth + 1

abbrev pub decreases-read_message : goal.decreases-read_message
decreases-read_message l = 2 * l.depth

abbrev pub invariant-read_message-loop-at : goal.invariant-read_message-loop-at
invariant-read_message-loop-at l = Walks l.depth l.table l.fn.cells l.base l.v l.reading l.cells l.at

abbrev pub decreases-read_message-loop-at : goal.decreases-read_message-loop-at
decreases-read_message-loop-at l = length l.v - l.at
