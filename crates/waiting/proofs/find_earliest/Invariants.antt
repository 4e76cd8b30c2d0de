-- `waiting::find_earliest` meets its contract: the best so far, or one of those left.
use mathlib.Core.Path.{◌≡◌}
use Rattle.waiting.specs.Waiting.{earliest}
use Rattle.waiting.proofs.Laws.{rest_from}
use Rattle.waiting.proofs.find_earliest.Given as goal

abbrev pub invariant-loop-i : goal.invariant-loop-i
invariant-loop-i l = earliest l.list l.count ≡ rest_from l.list l.count l.best l.over l.i
