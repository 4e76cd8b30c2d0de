-- What is left to show, goal by goal.
use Prim.Native.Nat.{ℕ, ◌+◌, ◌/◌, ◌%◌}
use mathlib.Core.Path.{refl, sym, ap, ◌∙◌}
use native.Mathlib.Numerals.{add-one}
use native.Mathlib.Omega.{arith}
use lib.ListN.{length, set, length-set}
use lib.Seq.{sets}
use Rattle.buffer.proofs.Puts.{put-fits}
use Rattle.buffer.proofs.Stretches.{room}
use Rattle.varint.specs.Varint.{continued, spelling, varint}
use Rattle.varint.proofs.Laws.{spelling-end, spelling-more}
use Rattle.varint.proofs.write.Goals as goal

pub loop-rest-init : goal.loop-rest-init
unfolding varint
loop-rest-init c = (9, omega arith, refl, refl, refl, room _ _ _ refl c.requires)

pub bounds-out-i : goal.bounds-out-i
bounds-out-i c =
    let l = c.loop-rest in
    let m = spelling-more l.invariant.0 l.rest c.loop-rest-test.true l.invariant.1 in
    omega (arith, ap length m.3, l.invariant.2, l.invariant.4, l.invariant.5)

pub loop-rest-preserved : goal.loop-rest-preserved
unfolding continued
loop-rest-preserved c =
    let l = c.loop-rest in
    let m = spelling-more l.invariant.0 l.rest c.loop-rest-test.true l.invariant.1 in (
      m.0,
      m.2,
      simp length-set l.invariant.2,
      l.invariant.3 ∙ ap (sets l.out l.i) m.3 ∙ ap (λ (k : ℕ). sets (set l.out l.i (l.rest % 128 + 128)) k (spelling m.0 (l.rest / 128))) (sym (add-one l.i)),
      omega (arith, ap length m.3, l.invariant.4),
      l.invariant.5,
    )

pub bounds-out-i-2 : goal.bounds-out-i-2
bounds-out-i-2 c =
    let l = c.loop-rest in
    let e = spelling-end l.invariant.0 l.rest c.loop-rest-test.false in
    omega (arith, ap length e, l.invariant.2, l.invariant.4, l.invariant.5)

pub overflow_add-result : goal.overflow_add-result
overflow_add-result c =
    let l = c.loop-rest in
    let e = spelling-end l.invariant.0 l.rest c.loop-rest-test.false in
    omega (arith, ap length e, l.invariant.2, l.invariant.4, l.invariant.5)

pub shape_of-out : goal.shape_of-out
shape_of-out c = simp length-set c.loop-rest.invariant.2

pub returns : goal.returns
returns c =
    let l = c.loop-rest in
    let e = spelling-end l.invariant.0 l.rest c.loop-rest-test.false in
    let a = c.args in
    let p = put-fits a.out.now a.at (varint a.v) c.requires in
    record {
      bytes = sym (l.invariant.3 ∙ ap (sets l.out l.i) e) ∙ p.bytes;
      position = omega (arith, ap length e, l.invariant.4) ∙ p.position;
    }
