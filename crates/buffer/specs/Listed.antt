-- Whether a number is one of a list.
use Rattle.std.specs.Prelude.{ℕ, List, [], ◌∷◌, Bool, false, ◌||◌, eqb}

unfoldable pub listed : ℕ → List ℕ → Bool
listed k [] = false
listed k (x ∷ xs) = eqb k x || listed k xs
