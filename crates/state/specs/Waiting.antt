-- The answers that wait, document 02, Q-1.
use Rattle.std.specs.Prelude.{ℕ, List, take, get_or}
use Rattle.state.specs.Setup.{free_at}
use Rattle.state.specs.declared.Delayed.{Delayed}
use Rattle.state.specs.declared.Waiting.{Waiting}

-- in the order in which they came
abbrev pub held_answers : Waiting → List Delayed
held_answers w = take w.count w.list

-- what stands at a place; places behind the answers held are free, and have a slot too
abbrev pub place_at : List Delayed → ℕ → Delayed
place_at l i = get_or l i (free_at 0)
