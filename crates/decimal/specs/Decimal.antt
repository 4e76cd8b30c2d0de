-- Decimal ids, document 01, step b: an id is 0 or a decimal without leading zero, below 2^32.
use Rattle.std.specs.Prelude.{ℕ, zero, suc, ◌+◌, ◌*◌, ◌-◌, ◌/◌, ◌%◌, ◌^◌, ◌<◌, List, [], ◌∷◌, Bool, true, false, eqb, ltb, None, Option, Some}
use Rattle.buffer.specs.Pick.{pick}

-- a number that is an id
abbrev pub IsId : ℕ → Type 0
IsId id = id < 2 ^ 32

-- the digits 0 to 9 are the bytes 48 to 57
unfoldable pub all_digits : List ℕ → Bool
all_digits [] = true
all_digits (b ∷ s) = pick (ltb b 48) false (pick (ltb 57 b) false (all_digits s))

-- the number that digits spell behind digits worth v
unfoldable pub spelt : ℕ → List ℕ → ℕ
spelt v [] = v
spelt v (b ∷ s) = spelt (v * 10 + (b - 48)) s

unfoldable pub digits_of : List ℕ → Option ℕ
digits_of s = pick (all_digits s) (pick (ltb (spelt 0 s) (2 ^ 32)) (Some (spelt 0 s)) None) None

-- a leading 0 stands alone
unfoldable pub zero_or : List ℕ → Option ℕ
zero_or [] = Some 0
zero_or (b ∷ s) = None

-- the id that a text spells, if it spells one
unfoldable pub id_of : List ℕ → Option ℕ
id_of [] = None
id_of (b ∷ s) = pick (eqb b 48) (zero_or s) (digits_of (b ∷ s))

-- the digits of a number, the last ones being known; k more may stand before the next
unfoldable pub digits_before : ℕ → ℕ → List ℕ → List ℕ
digits_before zero v known = (48 + v) ∷ known
digits_before (suc k) v known = pick (ltb v 10) ((48 + v) ∷ known) (digits_before k (v / 10) ((48 + v % 10) ∷ known))

-- a number below 2^32 in decimal
unfoldable pub decimal : ℕ → List ℕ
decimal v = digits_before 9 v []

-- the ids among texts, in order
unfoldable pub id_then : Option ℕ → List ℕ → List ℕ
id_then (Some i) ids = i ∷ ids
id_then None ids = ids

unfoldable pub ids_among : List (List ℕ) → List ℕ
ids_among [] = []
ids_among (text ∷ texts) = id_then (id_of text) (ids_among texts)
