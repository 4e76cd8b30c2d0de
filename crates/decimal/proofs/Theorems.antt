-- What `specs/Statements.antt` states of decimal ids.
use Rattle.std.specs.Prelude.{None, Some}
use Prim.Native.Nat.{ℕ, zero, suc, ◌+◌, ◌*◌, ◌-◌, ◌/◌, ◌%◌, ◌^◌, ◌≤◌, ◌<◌}
use mathlib.Core.Path.{◌≡◌, refl, sym, ap, ap₂, ◌∙◌}
use mathlib.Core.List.{List, [], ◌∷◌, ◌++◌, append-nil}
use mathlib.Core.Bool.{Bool, true, false, false≢true}
use native.Mathlib.Omega.{arith}
use borrow.Author.Tests.{lt-ltb, le-ltb, ltb-true, ltb-false, ne_eqb, eqb-true, eqb-false}
use lib.Dec.{ltb, eqb}
use lib.Arith.{lt_of_le-ne}
use Rattle.buffer.specs.Pick.{pick}
use Rattle.decimal.specs.Decimal.{all_digits, spelt, digits_of, zero_or, id_of, digits_before, decimal}
use Rattle.decimal.specs.Statements.{RoundTrip}
use Rattle.decimal.proofs.Laws.{bound, digits-end, digits_more}

-- the digits written before others are digits, and spell the number behind whatever stands before them
pub all-written : (k v : ℕ) (known : List ℕ) → v < bound k → all_digits (digits_before k v known) ≡ all_digits known
unfolding digits_before all_digits
all-written zero v known h = rw (le-ltb (48 + v) 48 (omega arith), le-ltb 57 (48 + v) (omega arith))
all-written (suc k) v known h = go (ltb v 10) refl (all-written k (v / 10) ((48 + v % 10) ∷ known) (omega arith))
  where
    go : (t : Bool) → ltb v 10 ≡ t → all_digits (digits_before k (v / 10) ((48 + v % 10) ∷ known)) ≡ all_digits ((48 + v % 10) ∷ known)
        → all_digits (pick t ((48 + v) ∷ known) (digits_before k (v / 10) ((48 + v % 10) ∷ known))) ≡ all_digits known
    go true e ih = let l = ltb-true v 10 e in rw (le-ltb (48 + v) 48 (omega arith), le-ltb 57 (48 + v) (omega arith))
    go false e ih = ih ∙ rw (le-ltb (48 + v % 10) 48 (omega arith), le-ltb 57 (48 + v % 10) (omega arith))

spelt-written : (k v : ℕ) (known : List ℕ) → v < bound k → spelt 0 (digits_before k v known) ≡ spelt v known
unfolding digits_before spelt
spelt-written zero v known h = ap (λ (x : ℕ). spelt x known) (omega arith)
spelt-written (suc k) v known h = go (ltb v 10) refl (spelt-written k (v / 10) ((48 + v % 10) ∷ known) (omega arith))
  where
    go : (t : Bool) → ltb v 10 ≡ t → spelt 0 (digits_before k (v / 10) ((48 + v % 10) ∷ known)) ≡ spelt (v / 10) ((48 + v % 10) ∷ known)
        → spelt 0 (pick t ((48 + v) ∷ known) (digits_before k (v / 10) ((48 + v % 10) ∷ known))) ≡ spelt v known
    go true e ih = ap (λ (x : ℕ). spelt x known) (omega arith)
    go false e ih = ih ∙ ap (λ (x : ℕ). spelt x known) (omega arith)

-- what a text of digits says of its first
digit : (b : ℕ) (s : List ℕ) → all_digits (b ∷ s) ≡ true → (48 ≤ b) × (b ≤ 57) × (all_digits s ≡ true)
unfolding all_digits
digit b s = go (ltb b 48) (ltb 57 b) refl refl
  where
    go : (t u : Bool) → ltb b 48 ≡ t → ltb 57 b ≡ u → pick t false (pick u false (all_digits s)) ≡ true → (48 ≤ b) × (b ≤ 57) × (all_digits s ≡ true)
    go false false p q h = (ltb-false b 48 p, ltb-false 57 b q, h)
    go false true p q h = absurd (false≢true h)
    go true u p q h = absurd (false≢true h)

zero-spelt : decimal 0 ≡ 48 ∷ []
unfolding decimal digits_before
zero-spelt = refl

ne-lt : {b : ℕ} → (b ≡ 48 → ⊥) → 48 ≤ b → 48 < b
ne-lt n h = lt_of_le-ne h (λ e. n (sym e))

-- a number that is not 0 has no leading 0
leads : (k v : ℕ) (known : List ℕ) → 0 < v → id_of (digits_before k v known) ≡ digits_of (digits_before k v known)
unfolding digits_before id_of
leads zero v known z = rw (ne_eqb (48 + v) 48 (λ e. omega arith))
leads (suc k) v known z = go (ltb v 10) refl (λ (y : 0 < v / 10). leads k (v / 10) ((48 + v % 10) ∷ known) y)
  where
    go : (t : Bool) → ltb v 10 ≡ t
        → (0 < v / 10 → id_of (digits_before k (v / 10) ((48 + v % 10) ∷ known)) ≡ digits_of (digits_before k (v / 10) ((48 + v % 10) ∷ known)))
        → id_of (pick t ((48 + v) ∷ known) (digits_before k (v / 10) ((48 + v % 10) ∷ known)))
        ≡ digits_of (pick t ((48 + v) ∷ known) (digits_before k (v / 10) ((48 + v % 10) ∷ known)))
    go true e ih = rw (ne_eqb (48 + v) 48 (λ y. omega arith))
    go false e ih = ih (let l = ltb-false v 10 e in omega arith)

back_some : (v : ℕ) → 0 < v → v < 2 ^ 32 → id_of (decimal v) ≡ Some v
unfolding decimal digits_of all_digits spelt
back_some v z h =
    let l : v < bound 9 = omega arith in
    leads 9 v [] z ∙ rw (all-written 9 v [] l, spelt-written 9 v [] l, lt-ltb v (2 ^ 32) h)

back : (v : ℕ) → v < 2 ^ 32 → id_of (decimal v) ≡ Some v
unfolding decimal digits_before id_of zero_or
back zero h = refl
back (suc v) h = back_some (suc v) (omega arith) h

-- the digits of a number that a text spells are the text
respelt : (s : List ℕ) (v k : ℕ) (rest : List ℕ) → 0 < v → all_digits s ≡ true → spelt v s < bound k
    → (j : ℕ) × (v < bound j) × (digits_before k (spelt v s) rest ≡ digits_before j v (s ++ rest))
unfolding spelt
respelt [] v k rest z a h = (k, h, refl)
respelt (b ∷ s) v k rest z a h =
    let d = digit b s a in
    let x = v * 10 + (b - 48) in
    let r = respelt s x k rest (omega arith) d.2 h in
    let m = digits_more r.0 x (s ++ rest) (omega arith) r.1 in
    let q : x / 10 ≡ v = omega (arith, d.0, d.1) in
    let y : 48 + x % 10 ≡ b = omega (arith, d.0, d.1) in
    (m.0, omega (arith, m.2, q), r.2 ∙ m.3 ∙ ap₂ (λ (p c : ℕ). digits_before m.0 p (c ∷ (s ++ rest))) q y)

respells : (b : ℕ) (s : List ℕ) → (b ≡ 48 → ⊥) → all_digits (b ∷ s) ≡ true → spelt 0 (b ∷ s) < 2 ^ 32 → decimal (spelt 0 (b ∷ s)) ≡ b ∷ s
unfolding decimal spelt
respells b s n a h =
    let d = digit b s a in
    let r = respelt s (0 * 10 + (b - 48)) 9 [] (omega (arith, d.0, ne-lt n d.0)) d.2 (omega (arith, h)) in
    r.2 ∙ digits-end r.0 (0 * 10 + (b - 48)) (s ++ []) (omega (arith, d.1)) ∙ ap₂ ◌∷◌ (omega (arith, d.0)) (append-nil s)

unchanged-digits : (b : ℕ) (s : List ℕ) (v : ℕ) → (b ≡ 48 → ⊥) → (t u : Bool) → all_digits (b ∷ s) ≡ t → ltb (spelt 0 (b ∷ s)) (2 ^ 32) ≡ u
    → pick t (pick u (Some (spelt 0 (b ∷ s))) None) None ≡ Some v → decimal v ≡ b ∷ s
unchanged-digits b s v n true true a l e =
    let x : spelt 0 (b ∷ s) ≡ v = cc in
    ap decimal (sym x) ∙ respells b s n a (ltb-true (spelt 0 (b ∷ s)) (2 ^ 32) l)
unchanged-digits b s v n true false a l e = let z : ◌≡◌ {A = ℕ} 0 1 = cc in absurd (omega arith)
unchanged-digits b s v n false u a l e = let z : ◌≡◌ {A = ℕ} 0 1 = cc in absurd (omega arith)

unchanged-first : (b : ℕ) (s : List ℕ) (v : ℕ) (t : Bool) → eqb b 48 ≡ t → pick t (zero_or s) (digits_of (b ∷ s)) ≡ Some v → decimal v ≡ b ∷ s
unfolding zero_or digits_of
unchanged-first b [] v true e h =
    let x : 0 ≡ v = cc in
    ap decimal (sym x) ∙ zero-spelt ∙ ap (λ (k : ℕ). k ∷ []) (sym (eqb-true b 48 e))
unchanged-first b (d ∷ s) v true e h = let z : ◌≡◌ {A = ℕ} 0 1 = cc in absurd (omega arith)
unchanged-first b s v false e h = unchanged-digits b s v (eqb-false b 48 e) (all_digits (b ∷ s)) (ltb (spelt 0 (b ∷ s)) (2 ^ 32)) refl refl h

unchanged : (s : List ℕ) (v : ℕ) → id_of s ≡ Some v → decimal v ≡ s
unfolding id_of
unchanged [] v e = let z : ◌≡◌ {A = ℕ} 0 1 = cc in absurd (omega arith)
unchanged (b ∷ s) v e = unchanged-first b s v (eqb b 48) refl e

pub round_trip : RoundTrip
round_trip = record { back = back; unchanged = unchanged }
