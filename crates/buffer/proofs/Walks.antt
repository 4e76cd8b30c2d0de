-- Laws of the walk: it stops at the end, goes on after an item, and ends at what can't be read. No user sees the fuel.
use Prim.Native.Nat.{ℕ, zero, suc, ◌+◌, ◌≤◌, ◌<◌}
use mathlib.Core.Path.{◌≡◌, refl, ap}
use mathlib.Core.List.{List}
use mathlib.Core.Bool.{true, false}
use native.Mathlib.Omega.{arith}
use borrow.Author.Tests.{lt-ltb, le-ltb}
use lib.Dec.{ltb}
use lib.ListN.{length}
use Rattle.buffer.specs.Pick.{pick}
use Rattle.buffer.specs.Walk.{Step, item, unreadable, Walked, ended, joined, onward, walk_for, walk}

-- each item takes at least a byte
abbrev pub Advances : {A : Type 0} → (List ℕ → ℕ → Step A) → Type 0
Advances {A} step = (s : List ℕ) (at : ℕ) (a : A) (next : ℕ) → step s at ≡ item a next → at < next

module _ {A : Type 0} (step : List ℕ → ℕ → Step A) where
  pub walk_end : (s : List ℕ) (at : ℕ) → length s ≤ at → walk step s at ≡ ended true
  unfolding walk walk_for
  walk_end s at h = rw (le-ltb at (length s) h)

  pub walk-unreadable : (s : List ℕ) (at : ℕ) → at < length s → step s at ≡ unreadable → walk step s at ≡ ended false
  unfolding walk walk_for
  walk-unreadable s at h e = rw (lt-ltb at (length s) h, e)

  module _ (adv : Advances step) where
    -- enough fuel is as good as more
    fuel : (f g : ℕ) (s : List ℕ) (at : ℕ) → length s ≤ f + at → length s ≤ g + at → walk_for step (suc f) s at ≡ walk_for step (suc g) s at
    unfolding walk_for
    fuel zero g s at h k = let z : length s ≤ at = omega arith in rw (le-ltb at (length s) z)
    fuel (suc f) zero s at h k = let z : length s ≤ at = omega arith in rw (le-ltb at (length s) z)
    fuel (suc f) (suc g) s at h k =
        ap (λ (w : Walked A). pick (ltb at (length s)) w (ended true))
        (go (step s at) (λ a next e. fuel f g s next (let z = adv s at a next e in omega arith) (let z = adv s at a next e in omega arith)))
      where
        go : (r : Step A) → ((a : A) (next : ℕ) → r ≡ item a next → walk_for step (suc f) s next ≡ walk_for step (suc g) s next)
            → onward (walk_for step (suc f) s) r ≡ onward (walk_for step (suc g) s) r
        go (item a next) ih = ap (joined a) (ih a next refl)
        go unreadable ih = refl

    pub walk_more : (s : List ℕ) (at next : ℕ) (a : A) → at < length s → step s at ≡ item a next
        → walk step s at ≡ joined a (walk step s next)
    unfolding walk walk_for
    walk_more s at next a h e = rw (lt-ltb at (length s) h, e) (go (length s) refl)
      where
        go : (n : ℕ) → length s ≡ n → joined a (walk_for step n s next) ≡ joined a (walk_for step (suc n) s next)
        go zero z = absurd (omega (arith, h, z))
        go (suc n) z = ap (joined a) (fuel n (suc n) s next (let y = adv s at a next e in omega arith) (omega arith))
