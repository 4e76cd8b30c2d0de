-- `varint::read` meets its contract: a step of the definition at each answer.
use Prim.Native.Nat.{ℕ}
use mathlib.Core.Path.{◌≡◌, sym, ap, ◌∙◌}
use native.Mathlib.Omega.{arith}
use Rattle.varint.specs.Varint.{more, varint_at}
use Rattle.varint.proofs.Laws.{read-digit, read_more, read_none}
use Rattle.varint.proofs.Theorems.{spelt-small}
use Rattle.varint.proofs.read.Goals as goal

many : ◌≡◌ {A = ℕ} 9 0 → ⊥
many e = omega arith

pub returns-in_err-get : goal.returns-in_err-get
unfolding varint_at
returns-in_err-get c =
    let a = c.args in
    c.from_residual.ensures ∙ sym (read_none a.s.now a.at 9 c.in_err-get.ensures.lookup.3)

pub returns-then-b-lt128 : goal.returns-then-b-lt128
unfolding varint_at
returns-then-b-lt128 c =
    let a = c.args in
    let w = c.from-b in
    let g = c.in_ok-get.ensures.lookup.3 in
    rw c.single.ensures (sym (read-digit a.s.now a.at w.result g.0 (w.ensures ∙ g.1 0) 9 many c.if-b-lt128.true))

pub joined-requires : goal.joined-requires
joined-requires c = spelt-small _ _ _ c.read_second.result (omega arith) c.read_second.ensures

pub returns : goal.returns
unfolding varint_at
returns c =
    let a = c.args in
    let w = c.from-b in
    let g = c.in_ok-get.ensures.lookup.3 in
    c.joined.ensures ∙ ap (more w.result) c.read_second.ensures
    ∙ sym (read_more a.s.now a.at w.result g.0 (w.ensures ∙ g.1 0) 9 many c.if-b-lt128.false)
