-- What `specs/Statements.antt` states of varints, and the bounds that readers above use.
use Rattle.std.specs.Prelude.{None, Option, Some}
use Prim.Native.Nat.{ℕ, zero, suc, ◌+◌, ◌*◌, ◌/◌, ◌%◌, ◌^◌, ◌≤◌, ◌<◌}
use mathlib.Core.Path.{◌≡◌, refl, sym, ap, ap₂, ◌∙◌}
use mathlib.Core.List.{List, [], ◌∷◌, ◌++◌}
use mathlib.Core.Bool.{Bool, true, false, ◌||◌, or-true, or-false}
use native.Mathlib.Omega.{arith}
use borrow.Author.Tests.{ne_eqb, eqb-true, eqb-false, lt-ltb, le-ltb, ltb-true, ltb-false}
use lib.Dec.{eqb, ltb}
use lib.ListN.{length, drop, length-drop}
use lib.Seq.{drop-append_seam}
use Rattle.buffer.specs.Pick.{pick}
use Rattle.buffer.specs.Stretch.{stretch}
use Rattle.buffer.proofs.Tests.{split}
use Rattle.varint.specs.Varint.{more, spelt, varint_at, continued, spelling, varint, is_longer, of_stretch, of_length, delimited_at, stands}
use Rattle.varint.specs.Statements.{RoundTrip, PaddedIsLonger, SamplesRead}
use Rattle.varint.specs.Before.{more_before, spelt_before, number_before, stretch_before, length_before, delimited_before, number_in, delimited_in, NumbersStand}
use Rattle.varint.proofs.Laws.{bound, bound-two, bound-rises, spelling-end}
use Rattle.varint.specs.declared.Varint.{Varint}

back_at : (k v : ℕ) (rest : List ℕ) (at : ℕ) → v < bound k → spelt k (spelling k v ++ rest) at ≡ stands v (at + length (spelling k v)) false
unfolding spelt spelling more continued
back_at zero v rest at h = rw (lt-ltb v 2 h)
back_at (suc k) v rest at h = go (ltb v 128) refl (back_at k (v / 128) rest (at + 1) (omega arith))
  where
    go : (t : Bool) → ltb v 128 ≡ t
        → spelt k (spelling k (v / 128) ++ rest) (at + 1) ≡ stands (v / 128) (at + 1 + length (spelling k (v / 128))) false
        → spelt (suc k) (pick t (v ∷ []) (continued (v % 128) ∷ spelling k (v / 128)) ++ rest) at
        ≡ stands v (at + length (pick t (v ∷ []) (continued (v % 128) ∷ spelling k (v / 128)))) false
    go true e ih = rw e
    go false e ih =
        let b = le-ltb (v % 128 + 128) 128 (omega arith) in
        let g = ltb-false v 128 e in
        rw (b, ih, ne_eqb (v / 128) 0 (omega arith)) (ap₂ (λ (x n : ℕ). stands x n false) (omega arith) (omega arith))

pub round_trip : RoundTrip
unfolding varint_at varint
round_trip =
    record { back = λ front v rest h. rw (drop-append_seam front (spelling 9 v ++ rest)) (back_at 9 v rest (length front) h) }

-- a number that was read ends within its bytes, after its start, and fits
pub record Within (most at n v next : ℕ) : Type 0 where
  pub starts : at < next
  pub ends : next ≤ at + n
  pub small : v < most

-- numbers that stand at one position are the same, part by part
pub stands-is : (a m v next : ℕ) (o p : Bool) → stands a m o ≡ stands v next p → (a ≡ v) × (m ≡ next) × (o ≡ p)
stands-is a m v next o p q =
    let e : ◌≡◌ {A = Varint} (record { value = a; next = m; padded = o }) (record { value = v; next = next; padded = p }) = cc in
    (ap (λ (r : Varint). r.value) e, ap (λ (r : Varint). r.next) e, ap (λ (r : Varint). r.padded) e)

within-last : (b at n v next : ℕ) (p t : Bool) → ltb b 2 ≡ t → pick t (stands b (at + 1) false) None ≡ stands v next p → Within 2 at (suc n) v next
within-last b at n v next p true l q =
    let e = stands-is b (at + 1) v next false p q in
    let h = ltb-true b 2 l in
    record { starts = omega arith; ends = omega arith; small = omega arith }
within-last b at n v next p false l q = let z : ◌≡◌ {A = ℕ} 0 1 = cc in absurd (omega arith)

within_more : (k b at n v next : ℕ) (p : Bool) (r : Option Varint) → ((x m : ℕ) (o : Bool) → r ≡ stands x m o → Within (bound k) (at + 1) n x m)
    → more b r ≡ stands v next p → Within (bound (suc k)) at (suc n) v next
unfolding more
within_more k b at n v next p (Some y) ih q =
    let e = stands-is (b % 128 + 128 * y.value) y.next v next (y.padded || eqb y.value 0) p q in
    let w = ih y.value y.next y.padded refl in
    record { starts = omega arith; ends = omega arith; small = omega arith }
within_more k b at n v next p None ih q = let z : ◌≡◌ {A = ℕ} 0 1 = cc in absurd (omega arith)

within-digit : (k b at n v next : ℕ) (p : Bool) (r : Option Varint) (t : Bool) → ((x m : ℕ) (o : Bool) → r ≡ stands x m o → Within (bound k) (at + 1) n x m)
    → ltb b 128 ≡ t → pick t (stands b (at + 1) false) (more b r) ≡ stands v next p → Within (bound (suc k)) at (suc n) v next
within-digit k b at n v next p r true ih l q =
    let e = stands-is b (at + 1) v next false p q in
    let h = ltb-true b 128 l in
    let g = bound-two k in
    record { starts = omega arith; ends = omega arith; small = omega arith }
within-digit k b at n v next p r false ih l q = within_more k b at n v next p r ih q

within-at : (k : ℕ) (s : List ℕ) (at v next : ℕ) (p : Bool) → spelt k s at ≡ stands v next p → Within (bound k) at (length s) v next
unfolding spelt
within-at k [] at v next p e = let z : ◌≡◌ {A = ℕ} 0 1 = cc in absurd (omega arith)
within-at zero (b ∷ s) at v next p e = within-last b at (length s) v next p (ltb b 2) refl e
within-at (suc k) (b ∷ s) at v next p e =
    within-digit k b at (length s) v next p (spelt k s (at + 1)) (ltb b 128) (λ x m o q. within-at k s (at + 1) x m o q) refl e

-- what at most nine bytes spell leaves room for seven bits more
pub spelt-small : (k : ℕ) (s : List ℕ) (at : ℕ) (r : Option Varint) → k ≤ 8 → r ≡ spelt k s at → (v next : ℕ) (p : Bool) → r ≡ stands v next p → v < 2 ^ 57
spelt-small k s at r h e v next p q =
    let w = within-at k s at v next p (sym e ∙ q) in
    let b = bound-rises k 8 h in
    omega (arith, w.small)

-- how a spelling that was read stands to the shortest: it is as long, or longer and then padded
pub record Beside (short at next : ℕ) (p : Bool) : Type 0 where
  pub longer : p ≡ ltb (at + short) next
  pub least : at + short ≤ next

beside-one : (at b v next n : ℕ) (p : Bool) → stands b (at + 1) false ≡ stands v next p → n ≡ 1 → Beside n at next p
beside-one at b v next n p q h =
    let e = stands-is b (at + 1) v next false p q in
    record { longer = sym e.2 ∙ sym (le-ltb (at + n) next (omega arith)); least = omega arith }

-- a rest that is not 0 has its own shortest spelling behind the byte, a rest of 0 has none
module _ (k b at : ℕ) (r : Option Varint) (starts : (x m : ℕ) (o : Bool) → r ≡ stands x m o → at + 1 < m)
    (rest : (x m : ℕ) (o : Bool) → r ≡ stands x m o → Beside (length (spelling k x)) (at + 1) m o) where
  beside-more : (v next : ℕ) (p : Bool) → more b r ≡ stands v next p → Beside (length (spelling (suc k) v)) at next p
  unfolding more spelling
  beside-more v next p = go r refl
    where
      go : (t : Option Varint) → r ≡ t → more b t ≡ stands v next p → Beside (length (spelling (suc k) v)) at next p
      go (Some w) e q =
          let d = stands-is (b % 128 + 128 * w.value) w.next v next (w.padded || eqb w.value 0) p q in
          let f = d.0 in
          let g = d.1 in
          let h = d.2 in
          let i = starts w.value w.next w.padded e in
          let j = rest w.value w.next w.padded e in
          split (eqb w.value 0)
          (λ z. let y = eqb-true w.value 0 z in
          rw (lt-ltb v 128 (omega arith)) (record { longer = sym h ∙ rw (z, or-true w.padded, lt-ltb (at + 1) next (omega arith)); least = omega arith }))
          (λ z. let y = eqb-false w.value 0 z in
          let c : v / 128 ≡ w.value = omega arith in
          let l = j.least in
          rw (le-ltb v 128 (omega arith), c)
          (record { longer = sym h ∙ rw (z, or-false w.padded, ← g) (j.longer ∙ ap (λ (n : ℕ). ltb n w.next) (omega arith)); least = omega arith }))
      go None e q = let z : ◌≡◌ {A = ℕ} 0 1 = cc in absurd (omega arith)

beside_at : (k : ℕ) (s : List ℕ) (at v next : ℕ) (p : Bool) → spelt k s at ≡ stands v next p → Beside (length (spelling k v)) at next p
unfolding spelt spelling
beside_at k [] at v next p e = let z : ◌≡◌ {A = ℕ} 0 1 = cc in absurd (omega arith)
beside_at zero (b ∷ s) at v next p e = go (ltb b 2) e
  where
    go : (t : Bool) → pick t (stands b (at + 1) false) None ≡ stands v next p → Beside 1 at next p
    go true q = beside-one at b v next 1 p q refl
    go false q = let z : ◌≡◌ {A = ℕ} 0 1 = cc in absurd (omega arith)
beside_at (suc k) (b ∷ s) at v next p e = go (ltb b 128) refl (λ x m o r. beside_at k s (at + 1) x m o r) e
  where
    go : (t : Bool) → ltb b 128 ≡ t
        → ((x m : ℕ) (o : Bool) → spelt k s (at + 1) ≡ stands x m o → Beside (length (spelling k x)) (at + 1) m o)
        → pick t (stands b (at + 1) false) (more b (spelt k s (at + 1))) ≡ stands v next p → Beside (length (spelling (suc k) v)) at next p
    go true l ih q =
        let e = stands-is b (at + 1) v next false p q in
        let h = ltb-true b 128 l in
        beside-one at b v next (length (spelling (suc k) v)) p q (ap length (spelling-end (suc k) v (omega arith)))
    go false l ih q = beside-more k b at (spelt k s (at + 1)) (λ x m o r. (within-at k s (at + 1) x m o r).starts) ih v next p q

pub padded-is-longer : PaddedIsLonger
unfolding varint_at varint is_longer
padded-is-longer =
    record {
      longer = λ s at v next p e. (beside_at 9 (drop at s) at v next p e).longer;
      least = λ s at v next p e. (beside_at 9 (drop at s) at v next p e).least;
    }

-- but for that, what is told is as before
number_more : (b : ℕ) (r : Option Varint) → number_in (more b r) ≡ more_before b (number_in r)
unfolding more more_before
number_more b (Some x) = refl
number_more b None = refl

numbers-at : (k : ℕ) (s : List ℕ) (at : ℕ) → number_in (spelt k s at) ≡ spelt_before k s at
unfolding spelt spelt_before
numbers-at k [] at = refl
numbers-at zero (b ∷ s) at = split (ltb b 2) (λ h. rw h) (λ h. rw h)
numbers-at (suc k) (b ∷ s) at =
    split (ltb b 128) (λ h. rw h) (λ h. rw h (number_more b (spelt k s (at + 1)) ∙ ap (more_before b) (numbers-at k s (at + 1))))

lengths-at : (s : List ℕ) (v : Option Varint) → delimited_in (of_length s v) ≡ length_before s (number_in v)
unfolding of_length of_stretch length_before stretch_before
lengths-at s (Some x) = go (stretch (length s) x.next x.value)
  where
    go : (t : Option ℕ) → delimited_in (of_stretch x.next x.padded t) ≡ stretch_before x.next t
    go (Some end) = refl
    go None = refl
lengths-at s None = refl

pub numbers-stand : NumbersStand
unfolding varint_at number_before delimited_at delimited_before
numbers-stand =
    record {
      numbers = λ s at. numbers-at 9 (drop at s) at;
      lengths = λ s at. lengths-at s (varint_at s at) ∙ ap (length_before s) (numbers-at 9 (drop at s) at);
    }

-- what is read at a position of a slice lies in the slice
pub record Inside (s : List ℕ) (at v next : ℕ) : Type 0 where
  pub starts : at < next
  pub ends : next ≤ length s
  pub small : v < 2 ^ 64

pub inside : (s : List ℕ) (at v next : ℕ) (p : Bool) → varint_at s at ≡ stands v next p → Inside s at v next
unfolding varint_at
inside s at v next p e =
    let w = within-at 9 (drop at s) at v next p e in
    let n = length-drop at s in
    record { starts = w.starts; ends = omega arith; small = w.small }

-- document 01's starred varints, and those of document 02, Q-8
pub samples-read : SamplesRead
unfolding varint_at spelt more
samples-read = refl
