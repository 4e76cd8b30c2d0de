-- A record's type and where its value stands, as they were told before document 02, Q-8; and that they stand.
use Rattle.std.specs.Prelude.{ℕ, ◌≡◌, List, None, Option, Some}
use Rattle.varint.specs.Before.{number_before, delimited_before}
use Rattle.tlv.specs.Record.{record_at}
use Rattle.tlv.specs.declared.Record.{Record}

unfoldable pub value_before : ℕ → Option (ℕ × ℕ) → Option (ℕ × ℕ × ℕ)
value_before kind (Some x) = Some (kind, x.0, x.1)
value_before kind None = None

unfoldable pub kind_before : List ℕ → Option (ℕ × ℕ) → Option (ℕ × ℕ × ℕ)
kind_before s (Some x) = value_before x.0 (delimited_before s x.1)
kind_before s None = None

unfoldable pub record_before : List ℕ → ℕ → Option (ℕ × ℕ × ℕ)
record_before s at = kind_before s (number_before s at)

abbrev pub record_in : Option Record → Option (ℕ × ℕ × ℕ)
record_in (Some r) = Some (r.kind, r.start, r.end)
record_in None = None

-- what is told now is the same, but for `padded`
abbrev pub RecordsStand : Type 0
RecordsStand = (s : List ℕ) (at : ℕ) → record_in (record_at s at) ≡ record_before s at
