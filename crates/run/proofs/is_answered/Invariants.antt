-- `run::is_answered` meets its contract: a record from where the loop stands on is answered where one of all is.
use Prim.Native.Nat.{◌-◌}
use mathlib.Core.Path.{◌≡◌}
use lib.ListN.{length}
use Rattle.tlv.specs.Record.{records}
use Rattle.run.specs.Run.{records_at, any_answered}
use Rattle.run.proofs.is_answered.Given as goal

abbrev pub invariant-loop-at : goal.invariant-loop-at
invariant-loop-at l = any_answered (records l.payload) ≡ any_answered (records_at l.payload l.at)

abbrev pub decreases-loop-at : goal.decreases-loop-at
decreases-loop-at l = length l.payload - l.at
