-- `value::is_match` meets its contract: another type names no group, and else both parts are needed.
use mathlib.Core.Path.{sym, ◌∙◌}
use Rattle.post.proofs.Laws.{match-other, match-no-kind, match-no-id, match-pair}
use Rattle.post.proofs.value.is_match.Goals as goal

pub returns-then-kind-ne57 : goal.returns-then-kind-ne57
returns-then-kind-ne57 c = sym (match-other _ _ _ c.if-kind-ne57.true)

pub returns-in_default : goal.returns-in_default
returns-in_default c = sym (match-no-kind _ _ _ c.if-kind-ne57.false (rw c.read_group-m.ensures at c.in_default.is))

pub returns-in_default-given_id : goal.returns-in_default-given_id
returns-in_default-given_id c = sym (match-no-id _ _ _ c.if-kind-ne57.false _ (rw c.read_group-m.ensures at c.in-Some.is) (rw c.read_group-m.ensures at c.in_default-given_id.is))

pub returns : goal.returns
returns c = c.has_pair.ensures ∙ sym (match-pair _ _ _ c.if-kind-ne57.false _ _ (rw c.read_group-m.ensures at c.in-Some.is) (rw c.read_group-m.ensures at c.in-Some-given_id.is))
