-- What holds of each of a list, and of what may be there or not.
use Rattle.std.specs.Prelude.{List, [], ◌∷◌, None, Option, Some}

abbrev pub IfAny : {A : Type 0} → (A → Type 0) → Option A → Type 0
IfAny P None = Unit {0}
IfAny P (Some a) = P a

abbrev pub Each : {A : Type 0} → (A → Type 0) → List A → Type 0
Each P [] = Unit {0}
Each P (a ∷ l) = P a × Each P l
