-- One assignment: what it leaves of the pairs held.
use Rattle.std.specs.Prelude.{None, Option, Some}
use Prim.Native.Nat.{ℕ, zero, suc, ◌+◌, ◌≤◌, ◌<◌}
use mathlib.Core.Path.{◌≡◌, refl, sym, ap, subst, ◌∙◌}
use mathlib.Core.List.{List, [], ◌∷◌}
use mathlib.Core.Bool.{true, false}
use native.Mathlib.Omega.{arith}
use borrow.Author.Tests.{leb-true, leb-false, eqb-true, eqb-false, ne_eqb, ltb-true, ltb-false, lt-ltb, le-ltb}
use lib.Dec.{eqb, leb, ltb}
use lib.ListN.{length, take, get_or, set, length-set, length-take}
use lib.Seq.{get_or-set_same, get_or-set_other, get_or-take}
use Rattle.assign.specs.Assign.{place_in, place_of, with_pair}
use Rattle.buffer.specs.Pick.{pick}
use Rattle.buffer.proofs.Tests.{split, pick-both}
use Rattle.state.specs.Groups.{no_pair, held_pairs, type_at, TypesDiffer}
use Rattle.state.specs.declared.Groups.{Groups}
use Rattle.state.specs.declared.Pair.{Pair}
use Rattle.calls.specs.Groups.{id_held, Nine}

-- the place of a type: no pair before it is of that type, and one that is held there is
module _ (kind : ℕ) where
  place-within : (ps : List Pair) → place_in ps kind ≤ length ps
  unfolding place_in
  place-within [] = omega arith
  place-within (p ∷ ps) =
      let h = place-within ps in
      pick-both (λ (n : ℕ). n ≤ suc (length ps)) (eqb p.kind kind) _ _ (λ _. omega arith) (λ _. omega arith)

  place-type : (ps : List Pair) → place_in ps kind < length ps → (get_or ps (place_in ps kind) no_pair).kind ≡ kind
  unfolding place_in
  place-type [] = λ h. absurd (omega arith)
  place-type (p ∷ ps) =
      pick-both (λ (n : ℕ). n < suc (length ps) → (get_or (p ∷ ps) n no_pair).kind ≡ kind) (eqb p.kind kind) _ _
      (λ e _. eqb-true p.kind kind e)
      (λ _ h. let e : place_in ps kind + 1 ≡ suc (place_in ps kind) = omega arith in rw e (place-type ps (omega arith)))

  place-first : (ps : List Pair) (i : ℕ) → i < place_in ps kind → (get_or ps i no_pair).kind ≡ kind → ⊥
  unfolding place_in
  place-first [] i = λ h. absurd (omega arith)
  place-first (p ∷ ps) zero =
      pick-both (λ (n : ℕ). 0 < n → p.kind ≡ kind → ⊥) (eqb p.kind kind) _ _ (λ _ h. absurd (omega arith)) (λ e _. eqb-false p.kind kind e)
  place-first (p ∷ ps) (suc i) =
      pick-both (λ (n : ℕ). suc i < n → (get_or ps i no_pair).kind ≡ kind → ⊥) (eqb p.kind kind) _ _ (λ _ h. absurd (omega arith))
      (λ _ h. place-first ps i (omega arith))

module _ (g : Groups) (kind : ℕ) where
  place-count : place_of g kind ≤ g.count
  place-count = let h = place-within kind (held_pairs g) in omega (arith, length-take g.count g.list)

  before-place : (i : ℕ) → i < place_of g kind → type_at g i ≡ kind → ⊥
  before-place i h e =
      let c = place-count in
      place-first kind (held_pairs g) i h (rw (get_or-take g.count g.list i no_pair (omega arith)) e)

-- how many are held with a pair at place k of n
more : (k n : ℕ) → pick (ltb (suc k) (suc n)) (suc n) (suc k + 1) ≡ suc (pick (ltb k n) n (k + 1))
more k n =
    split (ltb k n)
    (λ t. let h = ltb-true k n t in rw (t, lt-ltb (suc k) (suc n) (omega arith)))
    (λ t. let h = ltb-false k n t in rw (t, le-ltb (suc k) (suc n) (omega arith)) (omega arith))

-- each type has the id assigned to it, or the one that it had
module _ (kind id type : ℕ) where
  abbrev pair : Pair
  pair = record { kind = kind; id = id }

  -- the pair itself, and one of another type before it
  id-here : (q : Pair) (was : Option ℕ) → q.kind ≡ kind → pick (eqb kind type) (Some id) was ≡ pick (eqb kind type) (Some id) (pick (eqb q.kind type) (Some q.id) was)
  id-here q was e = split (eqb kind type) (λ t. rw t) (λ t. rw (e, t))

  id-behind : (q : Pair) (was : Option ℕ) → (q.kind ≡ kind → ⊥)
      → pick (eqb q.kind type) (Some q.id) (pick (eqb kind type) (Some id) was) ≡ pick (eqb kind type) (Some id) (pick (eqb q.kind type) (Some q.id) was)
  id-behind q was n =
      split (eqb kind type)
      (λ t. rw (t, ne_eqb q.kind type (λ e. n (e ∙ sym (eqb-true kind type t)))))
      (λ t. rw t)

  id-with : (l : List Pair) (n : ℕ) → place_in (take n l) kind < length l
      → id_held (take (pick (ltb (place_in (take n l) kind) n) n (place_in (take n l) kind + 1)) (set l (place_in (take n l) kind) pair)) type
      ≡ pick (eqb kind type) (Some id) (id_held (take n l) type)
  unfolding place_in id_held
  id-with [] n h = absurd (omega arith)
  id-with (p ∷ ps) zero h = refl
  id-with (p ∷ ps) (suc n) h =
      let k = place_in (take n ps) kind in
      split (eqb p.kind kind)
      (λ e. rw (e, lt-ltb 0 (suc n) (omega arith)) (id-here p (id_held (take n ps) type) (eqb-true p.kind kind e)))
      (λ e. let f : k + 1 ≡ suc k = omega arith in
      let h' : k < length ps = (let g : k + 1 < suc (length ps) = rw e at h in omega arith) in
      rw (e, f, more k n, id-with ps n h') (id-behind p (id_held (take n ps) type) (eqb-false p.kind kind e)))

-- a pair at its place
module _ (g : Groups) (kind id : ℕ) (pairs : length g.list ≡ 8) (few : g.count ≤ 8) (room : leb 8 (place_of g kind) ≡ false) where
  place-free : place_of g kind < 8
  place-free = leb-false 8 (place_of g kind) room

  at_place : place_of g kind < g.count → type_at g (place_of g kind) ≡ kind
  at_place h =
      rw (get_or-take g.count g.list (place_of g kind) no_pair h) at
      (place-type kind (held_pairs g) (omega (arith, length-take g.count g.list)))

  pub with-pairs : length (with_pair g kind id).list ≡ 8
  unfolding with_pair
  with-pairs = length-set g.list (place_of g kind) _ ∙ pairs

  with-here : type_at (with_pair g kind id) (place_of g kind) ≡ kind
  unfolding with_pair
  with-here =
      let h = place-free in
      ap (λ (p : Pair). p.kind) (get_or-set_same g.list (place_of g kind) (record { kind = kind; id = id }) no_pair (omega arith))

  with-other : (i : ℕ) → (i ≡ place_of g kind → ⊥) → type_at (with_pair g kind id) i ≡ type_at g i
  unfolding with_pair
  with-other i n =
      ap (λ (p : Pair). p.kind) (get_or-set_other g.list (place_of g kind) i (record { kind = kind; id = id }) no_pair n)

  -- how many: as many where a pair is replaced, one more where it is added
  pub with-grows : g.count ≤ (with_pair g kind id).count
  unfolding with_pair
  with-grows =
      pick-both (λ (n : ℕ). g.count ≤ n) (ltb (place_of g kind) g.count) _ _ (λ _. omega arith)
      (λ t. let h = ltb-false (place_of g kind) g.count t in omega arith)

  pub with-few : (with_pair g kind id).count ≤ 8
  unfolding with_pair
  with-few =
      let h = place-free in
      pick-both (λ (n : ℕ). n ≤ 8) (ltb (place_of g kind) g.count) _ _ (λ _. few) (λ _. omega arith)

  was-held : (i : ℕ) → i < (with_pair g kind id).count → (i ≡ place_of g kind → ⊥) → i < g.count
  unfolding with_pair
  was-held i =
      let c = place-count g kind in
      pick-both (λ (n : ℕ). i < n → (i ≡ place_of g kind → ⊥) → i < g.count) (ltb (place_of g kind) g.count) _ _ (λ _ h _. h) (λ _ h n. omega arith)

  -- those held stay at their places
  pub with-places : (i : ℕ) → i < g.count → type_at (with_pair g kind id) i ≡ type_at g i
  with-places i h =
      split (eqb i (place_of g kind))
      (λ t. let e = eqb-true i (place_of g kind) t in
      subst (λ (n : ℕ). n < g.count → type_at (with_pair g kind id) n ≡ type_at g n) (sym e) (λ k. with-here ∙ sym (at_place k)) h)
      (λ t. with-other i (eqb-false i (place_of g kind) t))

  -- no two share a type
  pub with-differ : TypesDiffer g → TypesDiffer (with_pair g kind id)
  with-differ d i j h k e =
      split (eqb j (place_of g kind))
      (λ t. let f = eqb-true j (place_of g kind) t in
      before-place g kind i (omega arith) (sym (with-other i (λ q. omega arith)) ∙ e ∙ subst (λ (n : ℕ). type_at (with_pair g kind id) n ≡ kind) (sym f) with-here))
      (λ t. let m = eqb-false j (place_of g kind) t in
      let l = was-held j k m in
      d i j h l (sym (with-places i (omega arith)) ∙ e ∙ with-other j m))

  pub with-id : (type : ℕ) → id_held (held_pairs (with_pair g kind id)) type ≡ pick (eqb kind type) (Some id) (id_held (held_pairs g) type)
  unfolding with_pair
  with-id type = let h = place-free in id-with kind id type g.list g.count (omega arith)

-- no place for one more: eight types are held, and its own is a ninth
module _ (g : Groups) (kind : ℕ) (list : length g.list ≡ 8) (few : g.count ≤ 8) (full : leb 8 (place_of g kind) ≡ true) where
  pub all_held : g.count ≡ 8
  all_held =
      let h = leb-true 8 (place_of g kind) full in
      let k = place-count g kind in
      omega arith

  another : (i : ℕ) → i < 8 → type_at g i ≡ kind → ⊥
  another i h = let k = leb-true 8 (place_of g kind) full in before-place g kind i (omega arith)

  abbrev ninth : ℕ → ℕ
  ninth i = pick (ltb i 8) (type_at g i) kind

  ninth-differs : TypesDiffer g → (i j : ℕ) → i < j → j < 9 → ninth i ≡ ninth j → ⊥
  ninth-differs d i j h k =
      let c = all_held in
      pick-both (λ (x : ℕ). x ≡ ninth j → ⊥) (ltb i 8) _ _
      (λ s. let a = ltb-true i 8 s in
      pick-both (λ (y : ℕ). type_at g i ≡ y → ⊥) (ltb j 8) _ _ (λ t. let b = ltb-true j 8 t in d i j h (omega arith)) (λ _. another i a))
      (λ s. let a = ltb-false i 8 s in absurd (omega arith))

  pub nine : (f : ℕ → Option ℕ) → TypesDiffer g → ((i : ℕ) → i < g.count → f (type_at g i) ≡ None → ⊥) → (f kind ≡ None → ⊥) → Nine f
  nine f d held new =
      let c = all_held in
      record {
        type = ninth;
        differ = ninth-differs d;
        held = λ i _. pick-both (λ (x : ℕ). f x ≡ None → ⊥) (ltb i 8) _ _ (λ s. let a = ltb-true i 8 s in held i (omega arith)) (λ _. new);
      }
