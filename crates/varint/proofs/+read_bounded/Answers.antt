-- What is left to show, goal by goal.
use mathlib.Core.Path.{sym, ap, ◌∙◌}
use native.Mathlib.Omega.{arith}
use Rattle.varint.specs.Varint.{more}
use Rattle.varint.proofs.Laws.{read-last, read-over, read-digit, read_more, read_none}
use Rattle.varint.proofs.Theorems.{spelt-small}
use Rattle.varint.proofs.+read_bounded.Goals as goal

pub returns-in_err-get : goal.returns-in_err-get
returns-in_err-get t c =
    let a = c.args in
    c.from_residual.ensures ∙ sym (read_none a.s.now a.at a.left c.in_err-get.ensures.lookup.3)

pub returns-then-b-lt2 : goal.returns-then-b-lt2
returns-then-b-lt2 t c =
    let a = c.args in
    let w = c.from-b in
    let g = c.in_ok-get.ensures.lookup.3 in
    rw c.single.ensures (sym (read-last a.s.now a.at w.result g.0 (w.ensures ∙ g.1 0) a.left c.if-left-eq0.true (omega arith)))

pub returns-then-left-eq0 : goal.returns-then-left-eq0
returns-then-left-eq0 t c =
    let a = c.args in
    let w = c.from-b in
    let g = c.in_ok-get.ensures.lookup.3 in
    sym (read-over a.s.now a.at w.result g.0 (w.ensures ∙ g.1 0) a.left c.if-left-eq0.true (omega arith))

pub returns-then-b-lt128 : goal.returns-then-b-lt128
returns-then-b-lt128 t c =
    let a = c.args in
    let w = c.from-b in
    let g = c.in_ok-get.ensures.lookup.3 in
    rw c.single-then-b-lt128.ensures (sym (read-digit a.s.now a.at w.result g.0 (w.ensures ∙ g.1 0) a.left c.if-left-eq0.false c.if-b-lt128.true))

pub read_bounded-requires : goal.read_bounded-requires
read_bounded-requires t c = (omega arith, omega arith)

pub joined-requires : goal.joined-requires
joined-requires t c =
    spelt-small _ _ _ c.read_bounded.result (omega arith) c.read_bounded.ensures

pub returns : goal.returns
returns t c =
    let a = c.args in
    let w = c.from-b in
    let g = c.in_ok-get.ensures.lookup.3 in
    c.joined.ensures ∙ ap (more w.result) c.read_bounded.ensures
    ∙ sym (read_more a.s.now a.at w.result g.0 (w.ensures ∙ g.1 0) a.left c.if-left-eq0.false c.if-b-lt128.false)
