-- `refusal::own_refusal` meets its contract: the refusals in number order.
use mathlib.Core.Path.{refl}
use native.Mathlib.Omega.{arith}
use Rattle.refusal.proofs.Laws.{of-own, refuses, refuses_numbered, goes-on, ends, ends_numbered}
use Rattle.refusal.specs.Refusal.{number_of}
use Rattle.refusal.proofs.own_refusal.Goals as goal

pub returns-in_err-checked-clause-outcome : goal.returns-in_err-checked-clause-outcome
unfolding number_of
returns-in_err-checked-clause-outcome c = of-own _ _ _ _ refl (refuses _ _ _ _ c.in_err-checked.ensures c.from_residual.ensures.1)

pub returns-in_err-checked-2-clause-outcome : goal.returns-in_err-checked-2-clause-outcome
unfolding number_of
returns-in_err-checked-2-clause-outcome c =
    of-own _ _ _ _ c.is_acceptable.ensures
    (goes-on _ _ c.in_ok-checked.ensures (refuses _ _ _ _ c.in_err-checked-2.ensures c.from_residual-in_err-checked-2.ensures.1))

pub returns-clause-outcome : goal.returns-clause-outcome
unfolding number_of
returns-clause-outcome c =
    of-own _ _ _ _ c.is_acceptable.ensures (goes-on _ _ c.in_ok-checked.ensures (goes-on _ _ c.in_ok-checked-2.ensures (ends _ _ c.checked-3.ensures)))

pub returns-in_err-checked-clause-numbered : goal.returns-in_err-checked-clause-numbered
unfolding number_of
returns-in_err-checked-clause-numbered c = λ w. refuses_numbered _ _ _ c.in_err-checked.ensures c.from_residual.ensures.1 (λ f z. absurd (omega arith))

pub returns-in_err-checked-2-clause-numbered : goal.returns-in_err-checked-2-clause-numbered
unfolding number_of
returns-in_err-checked-2-clause-numbered c = λ w. refuses_numbered _ _ _ c.in_err-checked-2.ensures c.from_residual-in_err-checked-2.ensures.1 (λ f z. absurd (omega arith))

pub returns-clause-numbered : goal.returns-clause-numbered
unfolding number_of
returns-clause-numbered c = λ w. ends_numbered _ _ c.checked-3.ensures (λ f. w f)
