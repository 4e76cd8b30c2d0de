-- `refusal::datagram_refusal` meets its contract: the refusals in number order.
use mathlib.Core.Path.{refl}
use native.Mathlib.Omega.{arith}
use Rattle.refusal.proofs.Laws.{of-datagram, refuses, refuses_numbered, goes-on, ends, ends_numbered}
use Rattle.refusal.specs.Refusal.{number_of}
use Rattle.refusal.proofs.datagram_refusal.Goals as goal

pub returns-in_err-checked-clause-outcome : goal.returns-in_err-checked-clause-outcome
unfolding number_of
returns-in_err-checked-clause-outcome c = of-datagram _ _ _ _ _ _ refl (refuses _ _ _ _ c.in_err-checked.ensures c.from_residual.ensures.1)

pub returns-in_err-checked-2-clause-outcome : goal.returns-in_err-checked-2-clause-outcome
unfolding number_of
returns-in_err-checked-2-clause-outcome c =
    of-datagram _ _ _ _ _ _ refl
    (goes-on _ _ c.in_ok-checked.ensures (refuses _ _ _ _ c.in_err-checked-2.ensures c.from_residual-in_err-checked-2.ensures.1))

pub returns-in_err-checked-3-clause-outcome : goal.returns-in_err-checked-3-clause-outcome
unfolding number_of
returns-in_err-checked-3-clause-outcome c =
    of-datagram _ _ _ _ _ _ refl
    (goes-on _ _ c.in_ok-checked.ensures
    (goes-on _ _ c.in_ok-checked-2.ensures (refuses _ _ _ _ c.in_err-checked-3.ensures c.from_residual-in_err-checked-3.ensures.1)))

pub returns-in_err-checked-4-clause-outcome : goal.returns-in_err-checked-4-clause-outcome
unfolding number_of
returns-in_err-checked-4-clause-outcome c =
    of-datagram _ _ _ _ _ _ c.is_acceptable.ensures
    (goes-on _ _ c.in_ok-checked.ensures
    (goes-on _ _ c.in_ok-checked-2.ensures
    (goes-on _ _ c.in_ok-checked-3.ensures (refuses _ _ _ _ c.in_err-checked-4.ensures c.from_residual-in_err-checked-4.ensures.1))))

pub returns-clause-outcome : goal.returns-clause-outcome
unfolding number_of
returns-clause-outcome c =
    of-datagram _ _ _ _ _ _ c.is_acceptable.ensures
    (goes-on _ _ c.in_ok-checked.ensures
    (goes-on _ _ c.in_ok-checked-2.ensures (goes-on _ _ c.in_ok-checked-3.ensures (goes-on _ _ c.in_ok-checked-4.ensures (ends _ _ c.checked-5.ensures)))))

pub returns-in_err-checked-clause-numbered : goal.returns-in_err-checked-clause-numbered
unfolding number_of
returns-in_err-checked-clause-numbered c = refuses_numbered _ _ _ c.in_err-checked.ensures c.from_residual.ensures.1 (λ f z. absurd (omega arith))

pub returns-in_err-checked-2-clause-numbered : goal.returns-in_err-checked-2-clause-numbered
unfolding number_of
returns-in_err-checked-2-clause-numbered c = refuses_numbered _ _ _ c.in_err-checked-2.ensures c.from_residual-in_err-checked-2.ensures.1 (λ f z. absurd (omega arith))

pub returns-in_err-checked-3-clause-numbered : goal.returns-in_err-checked-3-clause-numbered
unfolding number_of
returns-in_err-checked-3-clause-numbered c = refuses_numbered _ _ _ c.in_err-checked-3.ensures c.from_residual-in_err-checked-3.ensures.1 (λ f z. absurd (omega arith))

pub returns-in_err-checked-4-clause-numbered : goal.returns-in_err-checked-4-clause-numbered
unfolding number_of
returns-in_err-checked-4-clause-numbered c = refuses_numbered _ _ _ c.in_err-checked-4.ensures c.from_residual-in_err-checked-4.ensures.1 (λ f z. absurd (omega arith))

pub returns-clause-numbered : goal.returns-clause-numbered
unfolding number_of
returns-clause-numbered c = ends_numbered _ _ c.checked-5.ensures (λ f z. absurd (omega arith))
