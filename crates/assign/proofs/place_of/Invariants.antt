-- `assign::place_of` meets its contract: the type was not found yet, so its place is among those left.
use mathlib.Core.Path.{◌≡◌}
use Rattle.assign.specs.Assign.{place_of}
use Rattle.assign.proofs.Laws.{place_from}
use Rattle.assign.proofs.place_of.Given as goal

abbrev pub invariant-loop-i : goal.invariant-loop-i
invariant-loop-i l = place_of l.fn.groups l.kind ≡ place_from l.fn.groups l.i l.kind
