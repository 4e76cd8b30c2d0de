-- `coap::payload_from` meets its contract: the options left end where all of them do.
use Prim.Native.Nat.{◌-◌}
use mathlib.Core.Path.{◌≡◌}
use lib.ListN.{length}
use Rattle.coap.specs.Option.{options, payload_from}
use Rattle.coap.proofs.payload_from.Given as goal

abbrev pub invariant-loop-o : goal.invariant-loop-o
invariant-loop-o l = payload_from l.s l.from ≡ (options l.s l.at l.before).ending

abbrev pub decreases-loop-o : goal.decreases-loop-o
decreases-loop-o l = length l.s - l.at
