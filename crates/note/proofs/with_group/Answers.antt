-- `note::with_group` meets its contract: both parts given, or ignored.
use mathlib.Core.Path.{sym, ◌∙◌}
use Rattle.note.proofs.Laws.{group-kindless, group-idless, group-whole}
use Rattle.note.proofs.with_group.Goals as goal

pub returns-in_default : goal.returns-in_default
returns-in_default c = sym (group-kindless _ _ c.in_default.is)

pub returns-in_default-given_id : goal.returns-in_default-given_id
returns-in_default-given_id c = sym (group-idless _ _ _ c.in-Some.is c.in_default-given_id.is)

pub returns : goal.returns
returns c = c.assign_group.ensures ∙ sym (group-whole _ _ _ _ c.in-Some.is c.in-Some-given_id.is)
