-- Laws of the sizes of the answers that wait: they hold at first, and keeping and taking out leave them.
use Prim.Native.Nat.{ℕ, zero, suc, ◌+◌, ◌-◌, ◌≤◌, ◌<◌}
use mathlib.Core.Path.{◌≡◌, refl, sym, ap, subst, ◌∙◌}
use mathlib.Core.List.{List, [], ◌∷◌}
use native.Mathlib.Omega.{arith}
use borrow.Author.Tests.{eqb-true, eqb-false, leb-false}
use lib.Dec.{eqb, leb}
use lib.ListN.{length, set, get_or, length-set, get_or-map}
use lib.Seq.{get_or-set_same, get_or-set_other, map-set_same}
use Rattle.buffer.proofs.Tests.{split, pick-both}
use Rattle.schedule.specs.declared.Length.{Length}
use Rattle.schedule.specs.declared.Point.{Point}
use Rattle.state.specs.Setup.{free_at, none_waiting}
use Rattle.state.specs.Waiting.{place_at}
use Rattle.state.specs.declared.Delayed.{Delayed}
use Rattle.state.specs.declared.Waiting.{Waiting}
use Rattle.state.specs.declared.What.{What}
use Rattle.waiting.specs.Sized.{DelayedSized, WaitingSized}
use Rattle.waiting.specs.Waiting.{is_full, kept, without, due_of, left_by}
use Rattle.waiting.proofs.Laws.{without-first, without-second, without-third, without-last, due-cases}

-- four places, each sized, no two with the same slot
record Places (a b c d : Delayed) : Type 0 where
  a-sized : DelayedSized a
  b-sized : DelayedSized b
  c-sized : DelayedSized c
  d-sized : DelayedSized d
  ab : a.slot ≡ b.slot → ⊥
  ac : a.slot ≡ c.slot → ⊥
  ad : a.slot ≡ d.slot → ⊥
  bc : b.slot ≡ c.slot → ⊥
  bd : b.slot ≡ d.slot → ⊥
  cd : c.slot ≡ d.slot → ⊥

places_of : (w : Waiting) → WaitingSized w → Places (place_at w.list 0) (place_at w.list 1) (place_at w.list 2) (place_at w.list 3)
places_of w s =
    record {
      a-sized = s.each 0 (omega arith);
      b-sized = s.each 1 (omega arith);
      c-sized = s.each 2 (omega arith);
      d-sized = s.each 3 (omega arith);
      ab = s.slots 0 1 (omega arith) (omega arith);
      ac = s.slots 0 2 (omega arith) (omega arith);
      ad = s.slots 0 3 (omega arith) (omega arith);
      bc = s.slots 1 2 (omega arith) (omega arith);
      bd = s.slots 1 3 (omega arith) (omega arith);
      cd = s.slots 2 3 (omega arith) (omega arith);
    }

-- the numbers below four
below-four : (P : ℕ → Type 0) → P 0 → P 1 → P 2 → P 3 → (i : ℕ) → i < 4 → P i
below-four P a b c d zero h = a
below-four P a b c d (suc zero) h = b
below-four P a b c d (suc (suc zero)) h = c
below-four P a b c d (suc (suc (suc zero))) h = d
below-four P a b c d (suc (suc (suc (suc i)))) h = absurd (omega arith)

module _ {a b c d : Delayed} (p : Places a b c d) where
  abbrev l : List Delayed
  l = a ∷ b ∷ c ∷ d ∷ []

  places-each : (i : ℕ) → i < 4 → DelayedSized (place_at l i)
  places-each = below-four (λ i. DelayedSized (place_at l i)) p.a-sized p.b-sized p.c-sized p.d-sized

  places-slots : (i j : ℕ) → i < j → j < 4 → (place_at l i).slot ≡ (place_at l j).slot → ⊥
  places-slots i j h k =
      below-four (λ j. (i : ℕ) → i < j → (place_at l i).slot ≡ (place_at l j).slot → ⊥) (λ i h. absurd (omega arith))
      (λ i h. below-four (λ i. i < 1 → (place_at l i).slot ≡ b.slot → ⊥) (λ g. p.ab)
      (λ g. absurd (omega arith)) (λ g. absurd (omega arith)) (λ g. absurd (omega arith)) i (omega arith) h)
      (λ i h. below-four (λ i. i < 2 → (place_at l i).slot ≡ c.slot → ⊥) (λ g. p.ac) (λ g. p.bc)
      (λ g. absurd (omega arith)) (λ g. absurd (omega arith)) i (omega arith) h)
      (λ i h. below-four (λ i. i < 3 → (place_at l i).slot ≡ d.slot → ⊥) (λ g. p.ad) (λ g. p.bd) (λ g. p.cd)
      (λ g. absurd (omega arith)) i (omega arith) h)
      j k i h

  sized_of : (n : ℕ) → n ≤ 4 → WaitingSized (record { list = l; count = n })
  sized_of n h = record { list = omega arith; count = h; each = places-each; slots = places-slots }

  -- one behind the others
  first-behind : Places b c d a
  first-behind =
      record {
        a-sized = p.b-sized;
        b-sized = p.c-sized;
        c-sized = p.d-sized;
        d-sized = p.a-sized;
        ab = p.bc;
        ac = p.bd;
        ad = λ e. p.ab (sym e);
        bc = p.cd;
        bd = λ e. p.ac (sym e);
        cd = λ e. p.ad (sym e);
      }

  second-behind : Places a c d b
  second-behind =
      record {
        a-sized = p.a-sized;
        b-sized = p.c-sized;
        c-sized = p.d-sized;
        d-sized = p.b-sized;
        ab = p.ac;
        ac = p.ad;
        ad = p.ab;
        bc = p.cd;
        bd = λ e. p.bc (sym e);
        cd = λ e. p.bd (sym e);
      }

  third-behind : Places a b d c
  third-behind =
      record {
        a-sized = p.a-sized;
        b-sized = p.b-sized;
        c-sized = p.d-sized;
        d-sized = p.c-sized;
        ab = p.ab;
        ac = p.ad;
        ad = p.ac;
        bc = p.bd;
        bd = p.bc;
        cd = λ e. p.cd (sym e);
      }

-- none waits
free-sized : (slot : ℕ) → slot < 4 → DelayedSized (free_at slot)
free-sized slot h = record { url = omega arith; held = omega arith; slot = h }

pub none-sized : WaitingSized none_waiting
none-sized =
    sized_of
    (record {
      a-sized = free-sized 0 (omega arith);
      b-sized = free-sized 1 (omega arith);
      c-sized = free-sized 2 (omega arith);
      d-sized = free-sized 3 (omega arith);
      ab = λ e. omega arith;
      ac = λ e. omega arith;
      ad = λ e. omega arith;
      bc = λ e. omega arith;
      bd = λ e. omega arith;
      cd = λ e. omega arith;
    })
    0 (omega arith)

-- a place is taken by an answer with its slot
module _ (l : List Delayed) (n : ℕ) (d : Delayed) (e : d.slot ≡ (place_at l n).slot) where
  slot-set : (i : ℕ) → (place_at (set l n d) i).slot ≡ (place_at l i).slot
  slot-set i =
      sym (get_or-map (λ (x : Delayed). x.slot) (set l n d) i (free_at 0))
      ∙ ap (λ (m : List ℕ). get_or m i 0) (map-set_same (λ (x : Delayed). x.slot) l n d (free_at 0) e)
      ∙ get_or-map (λ (x : Delayed). x.slot) l i (free_at 0)

  sized_set : WaitingSized (record { list = l; count = n }) → n < 4 → d.url ≤ 128 → d.held ≤ 1056
      → (count : ℕ) → count ≤ 4 → WaitingSized (record { list = set l n d; count = count })
  sized_set s h u v count k =
      record {
        list = length-set l n d ∙ s.list;
        count = k;
        each = λ i g.
            split (eqb i n)
            (λ t. rw (eqb-true i n t, get_or-set_same l n d (free_at 0) (omega (arith, s.list)))
            (record { url = u; held = v; slot = (let z = (s.each n h).slot in omega arith) }))
            (λ t. rw (get_or-set_other l n i d (free_at 0) (eqb-false i n t)) (s.each i g));
        slots = λ i j g f q. s.slots i j g f (sym (slot-set i) ∙ q ∙ slot-set j);
      }

pub kept-sized : (w : Waiting) (from : Point) (wait : Length) (what : What) (url held : List ℕ) → WaitingSized w → length url ≤ 128
    → length held ≤ 1056 → WaitingSized (kept w from wait what url held)
unfolding kept is_full
kept-sized w from wait what url held s u v =
    pick-both WaitingSized (leb 4 w.count) w _ (λ t. s)
    (λ t. let h = leb-false 4 w.count t in
    sized_set w.list w.count _ refl s h u v (w.count + 1) (omega arith))

-- one is taken out
without-sized : (w : Waiting) → WaitingSized w → (i n : ℕ) → n ≤ 4 → WaitingSized (record { list = without w.list i; count = n })
without-sized w s i n k = go i
  where
    P : List Delayed → Type 0
    P m = WaitingSized (record { list = m; count = n })

    go : (i : ℕ) → P (without w.list i)
    go zero = subst P (without-first w.list s.list) (sized_of (first-behind (places_of w s)) n k)
    go (suc zero) = subst P (without-second w.list s.list) (sized_of (second-behind (places_of w s)) n k)
    go (suc (suc zero)) = subst P (without-third w.list s.list) (sized_of (third-behind (places_of w s)) n k)
    go (suc (suc (suc i))) = subst P (without-last w.list s.list (suc (suc (suc i))) (omega arith)) (sized_of (places_of w s) n k)

pub due-sized : (w : Waiting) (time : Point) → WaitingSized w → WaitingSized (left_by w (due_of w time))
unfolding left_by
due-sized w time s =
    due-cases w time (λ d. WaitingSized (left_by w d)) (λ e. s) (λ e. s)
    (λ e f. without-sized w s _ (w.count - 1) (let z = s.count in omega arith))
