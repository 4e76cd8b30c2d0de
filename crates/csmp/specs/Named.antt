-- What the statements about readers share: times as numbers, sizes, the fields of a nested message, and samples.
use Rattle.std.specs.Prelude.{ℕ, List, [], ◌∷◌, Bool, true, false, length, replicate, leb, None, Option, Some}
use Rattle.csmp.specs.Values.{moment_number, interval_number}
use Rattle.schedule.specs.declared.Length.{Length}
use Rattle.schedule.specs.declared.Point.{Point}

-- a time as a number that may be missing
abbrev pub moment_given : Option Point → Option ℕ
moment_given m = (moment_number m)

abbrev pub interval_given : Option Length → Option ℕ
interval_given i = (interval_number i)

-- bytes of at most so many, if there are any
abbrev pub short : ℕ → Option (List ℕ) → Bool
short n None = true
short n (Some bs) = leb (length bs) n

-- a field of a nested message, where there is one
abbrev pub in_part : {A B : Type 0} → (A → Option B) → Option A → Option B
in_part field None = None
in_part field (Some a) = field a

-- a sample: what is read by name, each field as a list, and what it should be
pub record Sample : Type 0 where
  pub is : List (Option (List ℕ))
  pub should : List (Option (List ℕ))

-- a number and a flag as lists
abbrev pub alone : Option ℕ → Option (List ℕ)
alone None = None
alone (Some n) = Some (n ∷ [])

abbrev pub flagged : Option Bool → Option (List ℕ)
flagged None = None
flagged (Some true) = Some (1 ∷ [])
flagged (Some false) = Some (0 ∷ [])

-- 32 bytes for a hash
abbrev pub sample_hash : List ℕ
sample_hash = replicate 32 0xAB
