-- Laws of the refusals: what each test of the code says of the definitions.
use Prim.Native.Nat.{ℕ, ◌≤◌}
use mathlib.Core.Path.{◌≡◌, refl, sym, ap, ◌∙◌}
use mathlib.Core.List.{List}
use mathlib.Core.Bool.{Bool, true, false}
use native.Mathlib.Omega.{arith}
use borrow.Author.Tests.{ltb-true, ltb-false}
use Rattle.std.proofs.lemmas.Bool.{lt-leb, le-leb}
use lib.Dec.{eqb, ltb, leb}
use Rattle.buffer.specs.Pick.{pick}
use Rattle.store.specs.Store.{acceptable}
use Rattle.std.specs.Prelude.{⊤, ◌≢◌, Result, Ok, Err, IsErrAnd, IfErr}
use Rattle.refusal.specs.Refusal.{number_of, outcome_of, refusal_of, own_refusal}
use Rattle.refusal.specs.declared.Refusal.{Refusal}

-- a test, the other way round
turned : (m n x y : ℕ) → pick (ltb m n) x y ≡ pick (leb n m) y x
turned m n x y = go (ltb m n) refl
  where
    go : (t : Bool) → ltb m n ≡ t → pick (ltb m n) x y ≡ pick (leb n m) y x
    go true e = rw (e, lt-leb n m (ltb-true m n e))
    go false e = rw (e, le-leb n m (ltb-false m n e))

-- the definitions by the tests of the code, which say what is taken
pub of-datagram : (image_len image out len : ℕ) (store : List ℕ) (verdict : ℕ) {fine : Bool} {n : ℕ} → fine ≡ acceptable store
    → n ≡ pick (leb 1280 out) (pick (eqb image image_len) (pick (leb verdict 2) (pick fine (pick (leb len 1280) 0 5) 4) 3) 2) 1
    → n ≡ refusal_of image_len image out len store verdict
unfolding refusal_of
of-datagram image_len image out len store verdict f h =
    rw (
      h,
      f,
      turned 1280 len 5 0,
      turned 2 verdict 3 (pick (acceptable store) (pick (leb len 1280) 0 5) 4),
      turned out 1280 1 (pick (eqb image image_len) (pick (leb verdict 2) (pick (acceptable store) (pick (leb len 1280) 0 5) 4) 3) 2),
    )

pub of-own : (out : ℕ) (store : List ℕ) (due : Bool) (number : ℕ) {fine : Bool} {n : ℕ} → fine ≡ acceptable store
    → n ≡ pick (leb 1280 out) (pick fine (pick due 0 number) 4) 1 → n ≡ own_refusal out store due number
unfolding own_refusal
of-own out store due number f h = rw (h, f, turned out 1280 1 (pick (acceptable store) (pick due 0 number) 4))

-- what one test answers
abbrev tested : Bool → Refusal → Result ⊤ Refusal
tested t e = pick t (Ok tt) (Err e)

-- it refuses, or the tests behind it decide, or it is the last
pub refuses : (t : Bool) (e : Refusal) {r : Refusal} (result : Result ⊤ Refusal) (rest : ℕ) → Err r ≡ tested t e → IsErrAnd result (λ y. y ≡ r)
    → outcome_of result ≡ pick t rest (number_of e)
unfolding outcome_of
refuses true e result rest h p = absurd cc
refuses false e (Ok u) rest h p = absurd p
refuses false e (Err y) rest h p = ap number_of (p ∙ cc)

pub goes-on : (t : Bool) (e : Refusal) {u : ⊤} {n rest : ℕ} → Ok u ≡ tested t e → n ≡ rest → n ≡ pick t rest (number_of e)
goes-on true e h k = k
goes-on false e h k = absurd cc

pub ends : (t : Bool) (e : Refusal) {result : Result ⊤ Refusal} → result ≡ tested t e → outcome_of result ≡ pick t 0 (number_of e)
unfolding outcome_of
ends true e h = rw h
ends false e h = rw h

-- a refusal of a test that did not hold has a number
pub refuses_numbered : (t : Bool) (e : Refusal) {r : Refusal} (result : Result ⊤ Refusal) → Err r ≡ tested t e → IsErrAnd result (λ y. y ≡ r)
    → (t ≡ false → number_of e ≢ 0) → IfErr result (λ y. number_of y ≢ 0)
refuses_numbered true e result h p w = absurd cc
refuses_numbered false e (Ok u) h p w = absurd p
refuses_numbered false e (Err y) h p w = λ z. w refl (sym (ap number_of (p ∙ cc)) ∙ z)

pub ends_numbered : (t : Bool) (e : Refusal) {result : Result ⊤ Refusal} → result ≡ tested t e → (t ≡ false → number_of e ≢ 0) → IfErr result (λ y. number_of y ≢ 0)
ends_numbered true e h w = rw h tt
ends_numbered false e h w = rw h (w refl)

-- behind a call: nothing was refused, or the number of the refusal is the outcome
pub taken : {u : ⊤} {n : ℕ} → outcome_of (Ok u) ≡ n → 0 ≡ n
unfolding outcome_of
taken h = h

module _ (r : Refusal) {m : ℕ} (k : m ≡ number_of r) where
  pub refused : {n : ℕ} → outcome_of (Err r) ≡ n → m ≡ n
  unfolding outcome_of
  refused h = k ∙ h

  pub numbered : number_of r ≢ 0 → m ≢ 0
  numbered w z = w (sym k ∙ z)

-- where no refusal applies, the output is long enough
pub room : (image_len image out len : ℕ) (store : List ℕ) (verdict : ℕ) → refusal_of image_len image out len store verdict ≡ 0 → 1280 ≤ out
unfolding refusal_of
room image_len image out len store verdict h = go (ltb out 1280) refl _ h
  where
    go : (t : Bool) → ltb out 1280 ≡ t → (n : ℕ) → pick t 1 n ≡ 0 → 1280 ≤ out
    go true e n k = absurd (omega arith)
    go false e n k = ltb-false out 1280 e

pub own_room : (out : ℕ) (store : List ℕ) (due : Bool) (number : ℕ) → own_refusal out store due number ≡ 0 → 1280 ≤ out
unfolding own_refusal
own_room out store due number h = go (ltb out 1280) refl _ h
  where
    go : (t : Bool) → ltb out 1280 ≡ t → (n : ℕ) → pick t 1 n ≡ 0 → 1280 ≤ out
    go true e n k = absurd (omega arith)
    go false e n k = ltb-false out 1280 e
