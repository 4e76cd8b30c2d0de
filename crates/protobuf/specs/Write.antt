-- Writing fields, document 01, "Records and fields": shortest varints; a tag is number·8 + wire type; present fields only.
use Rattle.std.specs.Prelude.{ℕ, ◌+◌, ◌*◌, List, [], ◌∷◌, ◌++◌, None, Option, Some}
use Rattle.varint.specs.Varint.{two, delimited}

unfoldable pub number_field : ℕ → ℕ → List ℕ
number_field n v = two (n * 8) v

unfoldable pub bytes_head : ℕ → ℕ → List ℕ
bytes_head n len = two (n * 8 + 2) len

unfoldable pub bytes_field : ℕ → List ℕ → List ℕ
bytes_field n bs = delimited (n * 8 + 2) bs

-- what is there is written, and each of a list in order
unfoldable pub if_any : {A : Type 0} → (A → List ℕ) → Option A → List ℕ
if_any write None = []
if_any write (Some a) = write a

unfoldable pub each : {A : Type 0} → (A → List ℕ) → List A → List ℕ
each write [] = []
each write (a ∷ l) = write a ++ each write l
