-- `note::assign_group` meets its contract: one of eight, or one too many.
use mathlib.Core.Path.{sym, ◌∙◌}
use Rattle.note.proofs.Laws.{ninth-unreadable, eight-assigned}
use Rattle.note.proofs.assign_group.Goals as goal

pub returns-then-n-ge8 : goal.returns-then-n-ge8
returns-then-n-ge8 c = c.mark.ensures ∙ sym (ninth-unreadable _ _ _ c.if-n-ge8.true)

pub returns-in_default : goal.returns-in_default
returns-in_default c = eight-assigned _ _ _ c.if-n-ge8.false _ (sym c.regroup.ensures ∙ c.in_default.is)

pub returns : goal.returns
returns c = eight-assigned _ _ _ c.if-n-ge8.false _ (sym c.regroup.ensures ∙ c.in-Some.is)
