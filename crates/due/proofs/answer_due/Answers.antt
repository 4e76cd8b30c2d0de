-- `due::answer_due` meets its contract: refused, nothing due, or what is due is sent.
use mathlib.Core.Path.{refl, sym, ◌∙◌}
use mathlib.Core.Bool.{true≢false}
use Rattle.refusal.proofs.Laws.{taken, refused, numbered}
use Rattle.due.proofs.Laws.{due-refused, due-none, due-some}
use Rattle.due.proofs.answer_due.Goals as goal

pub returns-in-Err : goal.returns-in-Err
returns-in-Err c =
    due-refused _ _ _ _ _ (refused _ c.number.ensures c.in-Err.ensures.outcome)
    (numbered _ c.number.ensures (c.in-Err.ensures.numbered (λ f. absurd (true≢false f)))) c.silent.ensures

pub returns-in_default-take_due : goal.returns-in_default-take_due
returns-in_default-take_due c =
    due-none _ _ _ _ _ (taken c.in_default.ensures.outcome) refl (sym c.take_due.ensures ∙ c.in_default-take_due.is) c.silent-in_default-take_due.ensures

pub returns : goal.returns
returns c = due-some _ _ _ _ _ (taken c.in_default.ensures.outcome) refl _ (sym c.take_due.ensures ∙ c.in-Some.is) c.send.ensures
