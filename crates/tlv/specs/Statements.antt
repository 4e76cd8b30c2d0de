-- What is proved of records, beyond the functions' contracts.
use Rattle.std.specs.Prelude.{ℕ, ◌^◌, ◌<◌, ◌≡◌, List, [], ◌∷◌, map, true, false, length}
use Rattle.tlv.specs.Record.{Tlv, records, readable, payload}

-- types and lengths are 64-bit numbers
pub data Fitting : List Tlv → Type 0 where
  none : Fitting []
  one : {r : Tlv} {rs : List Tlv} → r.kind < 2 ^ 64 → length r.value < 2 ^ 64 → Fitting rs → Fitting (r ∷ rs)

-- a record as it is written: not padded
abbrev pub shortest : Tlv → Tlv
shortest t = record { kind = t.kind; value = t.value; padded = false }

-- records that are written read back as the same records, not padded, and bytes in the written form come out unchanged
pub record RoundTrip : Type 0 where
  pub whole : (rs : List Tlv) → Fitting rs → readable (payload rs) ≡ true
  pub back : (rs : List Tlv) → Fitting rs → records (payload rs) ≡ map shortest rs
  pub unchanged : (rs : List Tlv) (s : List ℕ) → Fitting rs → s ≡ payload rs → payload (records s) ≡ s
