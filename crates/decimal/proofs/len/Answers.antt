-- What is left to show, goal by goal.
use Prim.Native.Nat.{◌+◌, ◌/◌, ◌%◌}
use mathlib.Core.Path.{refl, ap}
use mathlib.Core.List.{[], ◌∷◌}
use native.Mathlib.Omega.{arith}
use lib.ListN.{length}
use Rattle.decimal.specs.Decimal.{decimal}
use Rattle.decimal.proofs.Laws.{digits-end, digits_more, digits-length}
use Rattle.decimal.proofs.len.Goals as goal

pub loop-rest-init : goal.loop-rest-init
unfolding decimal
loop-rest-init c = (9, omega arith, omega arith, refl)

pub loop-rest-preserved : goal.loop-rest-preserved
loop-rest-preserved c =
    let l = c.loop-rest in
    let m = digits_more l.invariant.0 l.rest [] c.loop-rest-test.true l.invariant.1 in
    let one = digits-length m.0 (l.rest / 10) ((48 + l.rest % 10) ∷ []) [] in
    (m.0, m.2, omega (arith, ap length m.3, l.invariant.2, one), omega (arith, m.1, l.invariant.3))

pub returns : goal.returns
returns c =
    let l = c.loop-rest in
    let e = ap length (digits-end l.invariant.0 l.rest [] c.loop-rest-test.false) in
    omega (arith, e, l.invariant.2)
