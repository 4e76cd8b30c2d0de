-- What is proved of UTF-8, beyond the functions' contracts: well-formed texts are exactly the encodings of lists of scalar values, and no two lists
-- have the same encoding.
use Rattle.std.specs.Prelude.{ℕ, ◌≡◌, List, [], ◌∷◌, true}
use Rattle.utf8.specs.Encode.{is_scalar, all_encoded}
use Rattle.utf8.specs.Utf8.{is_utf8}

abbrev pub Scalars : List ℕ → Type 0
Scalars [] = Unit {0}
Scalars (c ∷ cs) = (is_scalar c ≡ true) × Scalars cs

pub record Utf8Encodes : Type 0 where
  pub encodings : (cs : List ℕ) → Scalars cs → is_utf8 (all_encoded cs) ≡ true
  pub texts : (s : List ℕ) → is_utf8 s ≡ true → (cs : List ℕ) × Scalars cs × (s ≡ all_encoded cs)
  pub once : (cs ds : List ℕ) → all_encoded cs ≡ all_encoded ds → cs ≡ ds
