-- What holds at each step of a walk holds of the whole walk.
use Prim.Native.Nat.{ℕ, zero, suc, ◌≤◌}
use mathlib.Core.Path.{◌≡◌, refl}
use mathlib.Core.List.{List}
use mathlib.Core.Bool.{true, false}
use borrow.Author.Tests.{ltb-false}
use lib.Dec.{ltb}
use lib.ListN.{length}
use Rattle.buffer.specs.Walk.{Step, item, unreadable, Walked, ended, joined, onward, walk_for, walk}
use Rattle.buffer.proofs.Tests.{split}

module _ {A : Type 0} (step : List ℕ → ℕ → Step A) where
  -- what holds at the end, before each item of what holds behind it, and where nothing can be read, holds of the walk
  module _ (s : List ℕ) (P : ℕ → Walked A → Type 0) (at-end : (at : ℕ) → length s ≤ at → P at (ended true)) (at-fault : (at : ℕ) → P at (ended false))
      (at_item : (at : ℕ) (a : A) (next : ℕ) (w : Walked A) → step s at ≡ item a next → P next w → P at (joined a w)) where
    holds-for : (f at : ℕ) → P at (walk_for step f s at)
    unfolding walk_for
    holds-for zero at = at-fault at
    holds-for (suc f) at = split (ltb at (length s)) (λ h. rw h (go (step s at) refl (holds-for f))) (λ h. rw h (at-end at (ltb-false at (length s) h)))
      where
        go : (r : Step A) → step s at ≡ r → ((next : ℕ) → P next (walk_for step f s next)) → P at (onward (walk_for step f s) r)
        go (item a next) e rest = at_item at a next (walk_for step f s next) e (rest next)
        go unreadable e rest = at-fault at

    pub walk-holds : (at : ℕ) → P at (walk step s at)
    unfolding walk
    walk-holds = holds-for (suc (length s))
