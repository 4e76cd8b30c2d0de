-- Laws of two runs of stores into a list, and of what a run leaves.
use Rattle.std.proofs.Common.{◌≡◌, ℕ, suc, ◌+◌, ◌-◌, ◌<◌, ◌≤◌, List, [], ◌∷◌, ◌++◌, length, get_or, take, drop, set, refl, ap, ◌∙◌, append_assoc, arith, length-take-le, get_or-set_other, drop-set-lt, drop_at}
use lib.Seq.{sets, sets-eq, set_comm, take-set-le, drop-set-add, take-append_seam}

module _ {A : Type 0} where
  -- a store before a run
  set-sets : (vs l : List A) (i j : ℕ) (a : A) → i < j → sets (set l i a) j vs ≡ set (sets l j vs) i a
  set-sets [] l i j a h = refl
  set-sets (b ∷ vs) l i j a h =
      rw (set_comm l i j a b (λ e. omega arith)) (set-sets vs (set l j b) i (suc j) a (omega arith))

  -- runs that lie apart commute
  pub sets-swap : (vs ws l : List A) (i j : ℕ) → i + length vs ≤ j → sets (sets l i vs) j ws ≡ sets (sets l j ws) i vs
  sets-swap [] ws l i j h = refl
  sets-swap (a ∷ vs) ws l i j h =
      sets-swap vs ws (set l i a) (suc i) j (omega arith) ∙ ap (λ (m : List A). sets m (suc i) vs) (set-sets ws l i j a (omega arith))

  -- what lies outside a run is as it was
  pub get_d-sets-other : (vs l : List A) (i k : ℕ) (z : A) → (i ≤ k → k < i + length vs → ⊥) → get_or (sets l i vs) k z ≡ get_or l k z
  get_d-sets-other [] l i k z h = refl
  get_d-sets-other (a ∷ vs) l i k z h =
      get_d-sets-other vs (set l i a) (suc i) k z (λ p q. h (omega arith) (omega arith))
      ∙ get_or-set_other l i k a z (λ e. h (omega arith) (omega arith))

  -- a run that fits stands where it was stored
  pub take-sets : (vs l : List A) (i : ℕ) → i + length vs ≤ length l → take (length vs) (drop i (sets l i vs)) ≡ vs
  take-sets vs l i h =
      rw (sets-eq vs l i h, append_assoc (take i l) vs (drop (i + length vs) l), drop_at (take i l) (vs ++ drop (i + length vs) l) i (length-take-le i l (omega arith)))
      (take-append_seam vs (drop (i + length vs) l))

  -- what lies behind a run is as it was, and a stretch before it
  pub drop-sets : (vs l : List A) (i k : ℕ) → i + length vs ≤ k → drop k (sets l i vs) ≡ drop k l
  drop-sets [] l i k h = refl
  drop-sets (a ∷ vs) l i k h = drop-sets vs (set l i a) (suc i) k (omega arith) ∙ drop-set-lt k l i a (omega arith)

  stretch-set : (l : List A) (i k n : ℕ) (a : A) → k + n ≤ i → take n (drop k (set l i a)) ≡ take n (drop k l)
  stretch-set l i k n a h =
      let e : i ≡ k + (i - k) = omega arith in
      ap (λ (j : ℕ). take n (drop k (set l j a))) e
      ∙ ap (take n) (drop-set-add k l (i - k) a)
      ∙ take-set-le n (drop k l) (i - k) a (omega arith)

  pub stretch-sets : (vs l : List A) (i k n : ℕ) → k + n ≤ i → take n (drop k (sets l i vs)) ≡ take n (drop k l)
  stretch-sets [] l i k n h = refl
  stretch-sets (a ∷ vs) l i k n h = stretch-sets vs (set l i a) (suc i) k n (omega arith) ∙ stretch-set l i k n a h
