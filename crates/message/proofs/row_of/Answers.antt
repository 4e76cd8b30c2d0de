-- What is left to show, goal by goal.
use Prim.Native.Nat.{◌+◌}
use mathlib.Core.Path.{refl, sym, ◌∙◌}
use native.Mathlib.Omega.{arith}
use Rattle.message.specs.Read.{row_in}
use Rattle.message.proofs.RowLaws.{rows_end, rows-outside, rows-this, rows_other}
use Rattle.message.proofs.row_of.Goals as goal

pub loop-i-init : goal.loop-i-init
unfolding row_in
loop-i-init c = refl

pub returns-then-table-i-lt3 : goal.returns-then-table-i-lt3
returns-then-table-i-lt3 c =
    let l = c.loop-i in
    sym (l.invariant ∙ rows-outside _ _ _ _ refl c.loop-i-test.true (omega arith))

pub overflow_cast-len : goal.overflow_cast-len
overflow_cast-len c = omega (arith, c.type_inv.table (c.loop-i.i + 2))

pub returns-then-table-start : goal.returns-then-table-start
returns-then-table-start c =
    let l = c.loop-i in
    sym (l.invariant ∙ rows-outside _ _ _ _ refl c.loop-i-test.true (omega arith))

pub returns-then-table-i : goal.returns-then-table-i
returns-then-table-i c =
    let l = c.loop-i in
    sym (l.invariant ∙ rows-this _ _ _ _ refl (omega arith) c.if-table-i.true)

pub loop-i-preserved : goal.loop-i-preserved
loop-i-preserved c =
    let l = c.loop-i in
    l.invariant ∙ rows_other _ _ _ _ refl (omega arith) c.if-table-i.false

pub returns : goal.returns
returns c = let l = c.loop-i in sym (l.invariant ∙ rows_end _ _ _ c.loop-i-test.false)
