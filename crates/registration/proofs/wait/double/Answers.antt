-- `wait::double` meets its contract: below the largest, or the largest.
use mathlib.Core.Path.{sym}
use Rattle.registration.proofs.Waits.{doubled-below, doubled-stops}
use Rattle.registration.proofs.wait.double.Goals as goal

pub returns-then-twice-largest : goal.returns-then-twice-largest
returns-then-twice-largest c = sym (doubled-below _ _ c.if-twice-largest.true)

pub returns : goal.returns
returns c = sym (doubled-stops _ _ c.if-twice-largest.false)
