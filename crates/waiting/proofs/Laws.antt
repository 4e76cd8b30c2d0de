-- Laws of the answers that wait: where their bytes stand, and which is taken out.
use Prim.Native.Nat.{ℕ, zero, suc, ◌+◌, ◌-◌, ◌*◌, ◌%◌, ◌≤◌, ◌<◌}
use mathlib.Core.Path.{◌≡◌, refl}
use mathlib.Core.List.{List, [], ◌∷◌, ◌++◌}
use mathlib.Core.Bool.{Bool, true, false, ◌&&◌}
use native.Mathlib.Nat.{mod-lt}
use native.Mathlib.Omega.{arith}
use borrow.Author.Tests.{eq-eqb, ne_eqb, lt-ltb, le-ltb, le-leb, lt-leb, eqb-true, eqb-false, ltb-true, ltb-false, leb-false}
use lib.Dec.{eqb, ltb, leb}
use lib.ListN.{length, take, drop, set, drop_of_length-le, length-take}
use Rattle.std.specs.Prelude.{Option, None, Some}
use Rattle.buffer.specs.Pick.{pick}
use Rattle.buffer.specs.Put.{placed}
use Rattle.buffer.proofs.Tests.{split, pick-both, head}
use Rattle.schedule.specs.declared.Length.{Length}
use Rattle.schedule.specs.declared.Point.{Point}
use Rattle.state.specs.Setup.{free_at}
use Rattle.state.specs.Waiting.{place_at}
use Rattle.state.specs.declared.Delayed.{Delayed}
use Rattle.state.specs.declared.Waiting.{Waiting}
use Rattle.state.specs.declared.What.{What}
use Rattle.waiting.specs.Waiting.{is_full, url_at, held_at, kept, kept_bytes, over_at, earliest_from, earliest_in, earliest, without, due_at, due_of}
use Rattle.waiting.specs.declared.Due.{Due}

-- a wait is at most the delay asked for
pub wait-most : (random most : ℕ) → random % (most + 1) ≤ most
wait-most random most = let z : random % (most + 1) < most + 1 = mod-lt random (omega arith) in omega arith

-- where a slot begins
module _ (slot : ℕ) where
  pub slot-none : 4 ≤ slot → 4736 ≡ url_at slot
  unfolding url_at
  slot-none h = rw (le-leb 4 slot h)

  pub slot-one : slot < 4 → slot * 1184 ≡ url_at slot
  unfolding url_at
  slot-one h = rw (lt-leb 4 slot h)

  pub url-most : url_at slot ≤ 4736
  unfolding url_at
  url-most = pick-both (λ n. n ≤ 4736) (leb 4 slot) 4736 (slot * 1184) (λ e. omega arith) (λ e. let h = leb-false 4 slot e in omega arith)

-- keeping one
module _ (w : Waiting) (from : Point) (wait : Length) (what : What) (url held : List ℕ) where
  pub kept-not : 4 ≤ w.count → w ≡ kept w from wait what url held
  unfolding kept is_full
  kept-not h = rw (le-leb 4 w.count h)

  pub kept-one : w.count < 4
      → record {
        list =
            set w.list w.count
            (record { from = from; wait = wait; what = what; url = length url; held = length held; slot = (place_at w.list w.count).slot });
        count = w.count + 1;
      } ≡ kept w from wait what url held
  unfolding kept is_full
  kept-one h = rw (lt-leb 4 w.count h)

module _ (w : Waiting) (answers url held : List ℕ) where
  pub bytes-not : 4 ≤ w.count → answers ≡ kept_bytes w answers url held
  unfolding kept_bytes is_full
  bytes-not h = rw (le-leb 4 w.count h)

  pub bytes_one : w.count < 4 → (at behind : ℕ) (once twice : List ℕ) → at ≡ url_at (place_at w.list w.count).slot
      → behind ≡ held_at (place_at w.list w.count).slot → once ≡ placed answers at url → twice ≡ placed once behind held
      → twice ≡ kept_bytes w answers url held
  unfolding kept_bytes is_full
  bytes_one h at behind once twice a b c d = rw (lt-leb 4 w.count h, d, c, a, b)

-- the earliest, of the best so far and those from place i on
unfoldable pub rest_from : List Delayed → ℕ → ℕ → ℕ → ℕ → ℕ
rest_from l n best over i = earliest_from i best over (drop i (take n l))

pub rest-start : (l : List Delayed) (n : ℕ) → 0 < length l → earliest l n ≡ rest_from l n 0 (over_at (place_at l 0)) 1
unfolding rest_from earliest earliest_in earliest_from
rest-start [] n h = absurd (omega arith)
rest-start (d ∷ ds) zero h = refl
rest-start (d ∷ ds) (suc n) h = refl

module _ (l : List Delayed) (n best over i : ℕ) where
  pub rest_end : length (take n l) ≤ i → rest_from l n best over i ≡ best
  unfolding rest_from earliest_from
  rest_end h = rw (drop_of_length-le (take n l) {i = i} h)

  rest-step : i < length l
      → rest_from l n best over i
      ≡ pick (ltb i n && ltb (over_at (place_at l i)) over) (rest_from l n i (over_at (place_at l i)) (suc i)) (rest_from l n best over (suc i))
  unfolding rest_from earliest_from
  rest-step h =
      split (ltb i n) (λ e. rw (e, head l n i (free_at 0) (ltb-true i n e) h))
      (λ e. let k = ltb-false i n e in
      rw (
        e,
        drop_of_length-le (take n l) {i = i} (omega (arith, length-take n l)),
        drop_of_length-le (take n l) {i = suc i} (omega (arith, length-take n l)),
      ))

  module _ (h : i < length l) (at : ℕ) (a : at ≡ over_at (place_at l i)) (t : Bool) (e : t ≡ (ltb i n && ltb at over)) where
    pub rest-here : t ≡ true → rest_from l n best over i ≡ rest_from l n i at (i + 1)
    rest-here k =
        let s : i + 1 ≡ suc i = omega arith in
        rw (s, a, rest-step h, ← a, ← e, k)

    pub rest-next : t ≡ false → rest_from l n best over i ≡ rest_from l n best over (i + 1)
    rest-next k =
        let s : i + 1 ≡ suc i = omega arith in
        rw (s, rest-step h, ← a, ← e, k)

-- it is a place of the list
from-within : (n i best over : ℕ) (l : List Delayed) → best < n → i + length l ≤ n → earliest_from i best over l < n
unfolding earliest_from
from-within n i best over [] h k = h
from-within n i best over (d ∷ ds) h k =
    pick-both (λ p. p < n) (ltb (over_at d) over) _ _ (λ e. from-within n (suc i) i (over_at d) ds (omega arith) (omega arith))
    (λ e. from-within n (suc i) best over ds h (omega arith))

pub earliest-within : (l : List Delayed) (n : ℕ) → 0 < length l → earliest l n < length l
unfolding earliest earliest_in
earliest-within [] n h = absurd (omega arith)
earliest-within (d ∷ ds) zero h = omega arith
earliest-within (d ∷ ds) (suc n) h = from-within (length (d ∷ ds)) 1 0 (over_at d) (take n ds) (omega arith) (omega (arith, length-take n ds))

-- four places
four : (P : List Delayed → Type 0) → ((a b c d : Delayed) → P (a ∷ b ∷ c ∷ d ∷ [])) → (l : List Delayed) → length l ≡ 4 → P l
four P f [] h = absurd (omega arith)
four P f (a ∷ []) h = absurd (omega arith)
four P f (a ∷ b ∷ []) h = absurd (omega arith)
four P f (a ∷ b ∷ c ∷ []) h = absurd (omega arith)
four P f (a ∷ b ∷ c ∷ d ∷ []) h = f a b c d
four P f (a ∷ b ∷ c ∷ d ∷ e ∷ l) h = absurd (omega arith)

module _ (l : List Delayed) (h : length l ≡ 4) where
  pub without-first : place_at l 1 ∷ place_at l 2 ∷ place_at l 3 ∷ place_at l 0 ∷ [] ≡ without l 0
  unfolding without
  without-first = four (λ l. place_at l 1 ∷ place_at l 2 ∷ place_at l 3 ∷ place_at l 0 ∷ [] ≡ without l 0) (λ a b c d. refl) l h

  pub without-second : place_at l 0 ∷ place_at l 2 ∷ place_at l 3 ∷ place_at l 1 ∷ [] ≡ without l 1
  unfolding without
  without-second = four (λ l. place_at l 0 ∷ place_at l 2 ∷ place_at l 3 ∷ place_at l 1 ∷ [] ≡ without l 1) (λ a b c d. refl) l h

  pub without-third : place_at l 0 ∷ place_at l 1 ∷ place_at l 3 ∷ place_at l 2 ∷ [] ≡ without l 2
  unfolding without
  without-third = four (λ l. place_at l 0 ∷ place_at l 1 ∷ place_at l 3 ∷ place_at l 2 ∷ [] ≡ without l 2) (λ a b c d. refl) l h

  pub without-last : (i : ℕ) → 3 ≤ i → place_at l 0 ∷ place_at l 1 ∷ place_at l 2 ∷ place_at l 3 ∷ [] ≡ without l i
  unfolding without
  without-last zero k = absurd (omega arith)
  without-last (suc zero) k = absurd (omega arith)
  without-last (suc (suc zero)) k = absurd (omega arith)
  without-last (suc (suc (suc zero))) k = four (λ l. place_at l 0 ∷ place_at l 1 ∷ place_at l 2 ∷ place_at l 3 ∷ [] ≡ without l 3) (λ a b c d. refl) l h
  without-last (suc (suc (suc (suc zero)))) k =
      four (λ l. place_at l 0 ∷ place_at l 1 ∷ place_at l 2 ∷ place_at l 3 ∷ [] ≡ without l 4) (λ a b c d. refl) l h
  without-last (suc (suc (suc (suc (suc i))))) k =
      four (λ l. place_at l 0 ∷ place_at l 1 ∷ place_at l 2 ∷ place_at l 3 ∷ [] ≡ without l (suc (suc (suc (suc (suc i))))))
      (λ a b c d. refl) l h

-- none waits; the earliest is not due; it is taken out
module _ (w : Waiting) (time : Point) where
  pub due-none : w.count ≡ 0 → None ≡ due_of w time
  unfolding due_of due_at
  due-none h = rw (eq-eqb w.count 0 h)

module _ (w : Waiting) (time : Point) (i : ℕ) (e : i ≡ earliest w.list w.count) where
  module _ (h : w.count ≡ 0 → ⊥) (over : ℕ) (o : over ≡ over_at (place_at w.list i)) where
    pub due-later : time.0 < over → None ≡ due_of w time
    unfolding due_of due_at
    due-later k = rw (← e, ne_eqb w.count 0 h, ← o, lt-ltb time.0 over k)

    pub due-now : over ≤ time.0 → (l : List Delayed) → l ≡ without w.list i
        → Some (record { answer = place_at w.list i; left = record { list = l; count = w.count - 1 } }) ≡ due_of w time
    unfolding due_of due_at
    due-now k l f = rw (← e, ne_eqb w.count 0 h, ← o, le-ltb time.0 over k, f)

-- which place is the earliest of the first n
abbrev pub over_in : List Delayed → ℕ → ℕ
over_in l j = over_at (place_at l j)

pub record Best (l : List Delayed) (n i : ℕ) : Type 0 where
  pub inside : i < n
  pub least : (j : ℕ) → j < n → over_in l i ≤ over_in l j
  pub first : (j : ℕ) → j < i → over_in l i < over_in l j

module _ (l : List Delayed) (n : ℕ) (m : n ≤ length l) where
  -- the one at place i, or the best of those before it
  best-new : (best i : ℕ) → Best l i best → over_in l i < over_in l best → Best l (suc i) i
  best-new best i b h =
      record {
        inside = omega arith;
        least = best-least;
        first = λ j k. let z = b.least j k in omega arith;
      }
    where
      best-least : (j : ℕ) → j < suc i → over_in l i ≤ over_in l j
      best-least j k =
          split (ltb j i) (λ e. let z = b.least j (ltb-true j i e) in omega arith)
          (λ e. let z : j ≡ i = (let y = ltb-false j i e in omega arith) in rw z (omega arith))

  best-old : (best i : ℕ) → Best l i best → over_in l best ≤ over_in l i → Best l (suc i) best
  best-old best i b h =
      record {
        inside = (let z = b.inside in omega arith);
        least = best-least;
        first = b.first;
      }
    where
      best-least : (j : ℕ) → j < suc i → over_in l best ≤ over_in l j
      best-least j k =
          split (ltb j i) (λ e. b.least j (ltb-true j i e))
          (λ e. let z : j ≡ i = (let y = ltb-false j i e in omega arith) in rw z h)

  best-rest : (k i best : ℕ) → k + i ≡ n → Best l i best → Best l n (rest_from l n best (over_in l best) i)
  best-rest zero i best e b =
      let z : i ≡ n = omega arith in
      rw (rest_end l n best (over_in l best) i (omega (arith, length-take n l)), ← z) b
  best-rest (suc k) i best e b =
      split (ltb (over_in l i) (over_in l best))
      (λ t. rw (rest-step l n best (over_in l best) i (omega arith), lt-ltb i n (omega arith), t)
      (best-rest k (suc i) i (omega arith) (best-new best i b (ltb-true _ _ t))))
      (λ t. rw (rest-step l n best (over_in l best) i (omega arith), lt-ltb i n (omega arith), t)
      (best-rest k (suc i) best (omega arith) (best-old best i b (ltb-false _ _ t))))

  best-alone : Best l 1 0
  best-alone =
      record {
        inside = omega arith;
        least = λ j k. let z : j ≡ 0 = omega arith in rw z (omega arith);
        first = λ j k. absurd (omega arith);
      }

  pub best-is : 0 < n → Best l n (earliest l n)
  best-is h = rw (rest-start l n (omega arith)) (best-rest (n - 1) 1 0 (omega arith) best-alone)

-- the others stay in their order
take-front : (n : ℕ) (l m : List Delayed) → n ≤ length l → take n (l ++ m) ≡ take n l
take-front zero l m h = refl
take-front (suc n) [] m h = absurd (omega arith)
take-front (suc n) (d ∷ ds) m h = rw (take-front n ds m (omega arith))

pub others-are : (l : List Delayed) (i n : ℕ) → i < n → n ≤ length l → take (n - 1) (without l i) ≡ take i (take n l) ++ drop (suc i) (take n l)
unfolding without
others-are l i zero h k = absurd (omega arith)
others-are [] i (suc n) h k = absurd (omega arith)
others-are (d ∷ ds) zero (suc n) h k = let e : suc n - 1 ≡ n = omega arith in rw e (take-front n ds (d ∷ []) (omega arith))
others-are (d ∷ ds) (suc i) (suc zero) h k = absurd (omega arith)
others-are (d ∷ ds) (suc i) (suc (suc n)) h k =
    let e : suc (suc n) - 1 ≡ suc (suc n - 1) = omega arith in
    rw (e, others-are ds i (suc n) (omega arith) (omega arith))

-- what holds where none waits, where the earliest is not due and where it is holds of what is answered
module _ (w : Waiting) (time : Point) where
  abbrev i : ℕ
  i = earliest w.list w.count

  pub due-cases : (P : Option Due → Type 0) → (w.count ≡ 0 → P None) → (time.0 < over_in w.list i → P None)
      → (0 < w.count → over_in w.list i ≤ time.0
      → P (Some (record { answer = place_at w.list i; left = record { list = without w.list i; count = w.count - 1 } })))
      → P (due_of w time)
  unfolding due_of due_at
  due-cases P f g h =
      pick-both P (eqb w.count 0) _ _ (λ e. f (eqb-true w.count 0 e))
      (λ e. pick-both P (ltb time.0 (over_in w.list i)) _ _ (λ k. g (ltb-true _ _ k))
      (λ k. h (let z = eqb-false w.count 0 e in omega arith) (ltb-false _ _ k)))
