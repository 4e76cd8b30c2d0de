-- The groups held, document 01, "Sizes"; by type, document 02, Q-3.
use Rattle.std.specs.Prelude.{ℕ, ◌<◌, ◌≡◌, List, take, get_or}
use Rattle.state.specs.declared.Groups.{Groups}
use Rattle.state.specs.declared.Pair.{Pair}

-- what fills the array behind the pairs held
abbrev pub no_pair : Pair
no_pair = record { kind = 0; id = 0 }

abbrev pub held_pairs : Groups → List Pair
held_pairs g = take g.count g.list

abbrev pub pair_at : Groups → ℕ → Pair
pair_at g i = get_or g.list i no_pair

abbrev pub type_at : Groups → ℕ → ℕ
type_at g i = (pair_at g i).kind

-- no two held pairs share a type
abbrev pub TypesDiffer : Groups → Type 0
TypesDiffer g = (i j : ℕ) → i < j → j < g.count → type_at g i ≡ type_at g j → ⊥
