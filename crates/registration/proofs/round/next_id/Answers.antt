-- `round::next_id` meets its contract: up by one, or back to 0.
use native.Mathlib.Omega.{arith}
use Rattle.registration.proofs.Rounds.{id-wraps, id-up}
use Rattle.registration.proofs.round.next_id.Goals as goal

pub returns-then-id-eq65535 : goal.returns-then-id-eq65535
returns-then-id-eq65535 c = id-wraps _ c.if-id-eq65535.true

pub returns : goal.returns
returns c = id-up _ c.if-id-eq65535.false (omega (arith, c.ranges))
