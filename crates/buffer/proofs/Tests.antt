-- Laws of tests, and of the list that an array's first elements are.
use Prim.Native.Nat.{ℕ, zero, suc, ◌<◌}
use mathlib.Core.Path.{◌≡◌, refl, sym}
use mathlib.Core.List.{List, [], ◌∷◌}
use mathlib.Core.Bool.{Bool, true, false, ◌&&◌, ◌||◌, true≢false}
use native.Mathlib.Omega.{arith}
use lib.ListN.{length, take, drop, get_or}
use Rattle.buffer.specs.Pick.{pick}

-- both answers of a test
pub split : {X : Type 0} (t : Bool) → (t ≡ true → X) → (t ≡ false → X) → X
split true f g = f refl
split false f g = g refl

-- what holds of both answers holds of the one picked
pub pick-both : {A : Type 0} (P : A → Type 0) (t : Bool) (a b : A) → (t ≡ true → P a) → (t ≡ false → P b) → P (pick t a b)
pick-both P true a b f g = f refl
pick-both P false a b f g = g refl

pub both : (t u : Bool) → (t && u) ≡ true → (t ≡ true) × (u ≡ true)
both true true e = (refl, refl)
both true false e = absurd (true≢false (sym e))
both false u e = absurd (true≢false (sym e))

pub neither : (t u : Bool) → (t || u) ≡ false → (t ≡ false) × (u ≡ false)
neither true u e = absurd (true≢false e)
neither false u e = (refl, e)

-- of the first n, those from place i on begin with the one there
pub head : {A : Type 0} (l : List A) (n i : ℕ) (d : A) → i < n → i < length l → drop i (take n l) ≡ get_or l i d ∷ drop (suc i) (take n l)
head l zero i d h k = absurd (omega arith)
head [] (suc n) i d h k = absurd (omega arith)
head (x ∷ xs) (suc n) zero d h k = refl
head (x ∷ xs) (suc n) (suc i) d h k = head xs n i d (omega arith) (omega arith)
