-- `value::has_pair` meets its contract: what was not found yet is among the pairs left.
use mathlib.Core.Path.{◌≡◌}
use Rattle.post.specs.Value.{has_pair}
use Rattle.post.proofs.Laws.{pair_from}
use Rattle.post.proofs.value.has_pair.Given as goal

abbrev pub invariant-loop-i : goal.invariant-loop-i
invariant-loop-i l = has_pair l.fn.groups l.kind l.id ≡ pair_from l.fn.groups l.i l.kind l.id
