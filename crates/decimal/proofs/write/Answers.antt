-- What is left to show, goal by goal.
use Prim.Native.Nat.{ℕ, ◌+◌, ◌-◌, ◌/◌, ◌%◌}
use mathlib.Core.Path.{◌≡◌, refl, sym, ap, ap₂, ◌∙◌}
use mathlib.Core.List.{[], ◌∷◌}
use native.Mathlib.Omega.{arith}
use lib.ListN.{length, length-set}
use lib.Seq.{sets, length-sets}
use Rattle.buffer.proofs.Puts.{put-fits}
use Rattle.buffer.proofs.Stretches.{room}
use Rattle.decimal.specs.Decimal.{decimal}
use Rattle.decimal.proofs.Laws.{digits-end, digits_more, digits-some, stored}
use Rattle.decimal.proofs.write.Goals as goal

pub overflow_sub-i : goal.overflow_sub-i
unfolding decimal
overflow_sub-i c = let h = digits-some 9 c.args.v [] in omega (arith, c.requires)

pub loop-rest-init : goal.loop-rest-init
unfolding decimal
loop-rest-init c = let h = digits-some 9 c.args.v [] in (9, [], omega arith, refl, refl, omega (arith, c.requires), room _ _ _ refl c.requires.v_value)

pub bounds-out-i : goal.bounds-out-i
bounds-out-i c =
    let l = c.loop-rest in
    omega (arith, ap length l.invariant.3 ∙ length-sets _ (l.i + 1) l.invariant.1, l.invariant.5, l.invariant.6)

pub overflow_sub-i-in-loop-rest : goal.overflow_sub-i-in-loop-rest
overflow_sub-i-in-loop-rest c =
    let l = c.loop-rest in
    let m = digits_more l.invariant.0 l.rest l.invariant.1 c.loop-rest-test.true l.invariant.2 in
    omega (arith, digits-some m.0 (l.rest / 10) ((48 + l.rest % 10) ∷ l.invariant.1), ap length m.3, ap length l.invariant.4, l.invariant.5)

pub loop-rest-preserved : goal.loop-rest-preserved
loop-rest-preserved c =
    let l = c.loop-rest in
    let a = c.args in
    let m = digits_more l.invariant.0 l.rest l.invariant.1 c.loop-rest-test.true l.invariant.2 in
    let d = 48 + l.rest % 10 in
    let o = a.out.now in
    let h : l.i ≡ l.i - 1 + 1 = omega (arith, digits-some m.0 (l.rest / 10) (d ∷ l.invariant.1), ap length m.3, ap length l.invariant.4, l.invariant.5) in (
      m.0,
      d ∷ l.invariant.1,
      m.2,
      stored l.invariant.1 o l.out l.i d l.invariant.3 ∙ ap (λ (k : ℕ). sets o k (d ∷ l.invariant.1)) h,
      sym m.3 ∙ l.invariant.4,
      omega (arith, l.invariant.5),
      l.invariant.6,
    )

pub bounds-out-i-2 : goal.bounds-out-i-2
bounds-out-i-2 c =
    let l = c.loop-rest in
    omega (arith, ap length l.invariant.3 ∙ length-sets _ (l.i + 1) l.invariant.1, l.invariant.5, l.invariant.6)

pub shape_of-out : goal.shape_of-out
shape_of-out c =
    let l = c.loop-rest in
    simp length-set (ap length l.invariant.3 ∙ simp length-sets)

pub returns : goal.returns
returns c =
    let l = c.loop-rest in
    let a = c.args in
    let o = a.out.now in
    let e : (48 + l.rest) ∷ l.invariant.1 ≡ decimal a.v = sym (digits-end l.invariant.0 l.rest l.invariant.1 c.loop-rest-test.false) ∙ l.invariant.4 in
    let i : l.i ≡ a.at = omega (arith, ap length e, l.invariant.5) in
    let p = put-fits o a.at (decimal a.v) c.requires.v_value in
    record {
      bytes = stored l.invariant.1 o l.out l.i (48 + l.rest) l.invariant.3 ∙ ap₂ (sets o) i e ∙ p.bytes;
      position = c.requires.end_value ∙ p.position;
    }
