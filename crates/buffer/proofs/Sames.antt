-- Laws of the test whether two lists are the same.
use Prim.Native.Nat.{ℕ, suc}
use mathlib.Core.Path.{◌≡◌, refl, ap, ap₂, ◌∙◌}
use mathlib.Core.List.{List, [], ◌∷◌}
use mathlib.Core.Bool.{Bool, true, false, ◌&&◌, false≢true}
use borrow.Author.Tests.{eqb-true}
use lib.Dec.{eqb}
use lib.ListN.{length}
use Rattle.std.specs.List.{fold, zip}
use native.Mathlib.Omega.{arith}
use Rattle.buffer.specs.Pick.{pick}
use Rattle.buffer.specs.Same.{same_bytes}

-- lists of different lengths differ
pub same_length : (a b : List ℕ) → (length a ≡ length b → ⊥) → same_bytes a b ≡ false
unfolding same_bytes
same_length [] [] h = absurd (h refl)
same_length [] (y ∷ b) h = refl
same_length (x ∷ a) [] h = refl
same_length (x ∷ a) (y ∷ b) h = go (eqb x y) (same_length a b (λ e. h (ap suc e)))
  where
    go : (t : Bool) → same_bytes a b ≡ false → pick t (same_bytes a b) false ≡ false
    go true e = e
    go false e = refl

-- a fold that looks at every pair
pub same_folded : (a b : List ℕ) (t : Bool) → length a ≡ length b → fold (λ s p. s && eqb p.0 p.1) t (zip a b) ≡ (t && same_bytes a b)
unfolding same_bytes
same_folded [] [] true h = refl
same_folded [] [] false h = refl
same_folded [] (y ∷ b) t h = absurd (omega (arith, h))
same_folded (x ∷ a) [] t h = absurd (omega (arith, h))
same_folded (x ∷ a) (y ∷ b) t h = same_folded a b (t && eqb x y) (omega (arith, h)) ∙ go t (eqb x y)
  where
    go : (t e : Bool) → (t && e && same_bytes a b) ≡ (t && pick e (same_bytes a b) false)
    go true true = refl
    go true false = refl
    go false e = refl

-- lists that the test finds the same are equal
pub same-eq : (a b : List ℕ) → same_bytes a b ≡ true → a ≡ b
unfolding same_bytes
same-eq [] [] e = refl
same-eq [] (y ∷ b) e = absurd (false≢true e)
same-eq (x ∷ a) [] e = absurd (false≢true e)
same-eq (x ∷ a) (y ∷ b) e = go (eqb x y) refl e (λ f. same-eq a b f)
  where
    go : (t : Bool) → eqb x y ≡ t → pick t (same_bytes a b) false ≡ true → (same_bytes a b ≡ true → a ≡ b) → x ∷ a ≡ y ∷ b
    go true f g ih = ap₂ ◌∷◌ (eqb-true x y f) (ih g)
    go false f g ih = absurd (false≢true g)
