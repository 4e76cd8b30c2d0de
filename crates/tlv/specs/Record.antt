-- Records, document 01, "Records and fields": a record is varint type, varint length, value. Document 02, Q-8: padded where its type or its
-- length is.
use Rattle.std.specs.Prelude.{ℕ, ◌-◌, List, [], ◌∷◌, ◌++◌, map, Bool, false, ◌||◌, take, drop, None, Option, Some}
use Rattle.buffer.specs.Walk.{Step, item, unreadable, Walked, walk}
use Rattle.varint.specs.Varint.{varint_at, delimited_at, delimited}
use Rattle.tlv.specs.declared.Record.{Record}
use Rattle.varint.specs.declared.Delimited.{Delimited}
use Rattle.varint.specs.declared.Varint.{Varint}

-- the record of a type, where its value stands
unfoldable pub of_value : ℕ → Bool → Option Delimited → Option Record
of_value kind padded (Some x) = Some (record { kind = kind; start = x.start; end = x.end; padded = padded || x.padded })
of_value kind padded None = None

-- the same, once its type is read
unfoldable pub of_kind : List ℕ → Option Varint → Option Record
of_kind s (Some x) = of_value x.value x.padded (delimited_at s x.next)
of_kind s None = None

-- the record at a position of a payload
unfoldable pub record_at : List ℕ → ℕ → Option Record
record_at s at = of_kind s (varint_at s at)

-- a record's step of the walk: the next one begins where its value ends
abbrev pub stepped : Option Record → Step Record
stepped (Some r) = item r r.end
stepped None = unreadable

unfoldable pub record_step : List ℕ → ℕ → Step Record
record_step s at = stepped (record_at s at)

-- the records from a position on; one that can't be read ends the reading, and the payload is then not whole
unfoldable pub records_from : List ℕ → ℕ → Walked Record
records_from s at = walk record_step s at

-- a record by its value, wherever it stood, and whether it is padded
pub record Tlv : Type 0 where
  pub kind : ℕ
  pub value : List ℕ
  pub padded : Bool

abbrev pub valued : List ℕ → Record → Tlv
valued s r = record { kind = r.kind; value = take (r.end - r.start) (drop r.start s); padded = r.padded }

-- the records of a payload by their values
unfoldable pub records : List ℕ → List Tlv
records s = map (valued s) (records_from s 0).items

-- whether a payload can be read to its end
unfoldable pub readable : List ℕ → Bool
readable s = (records_from s 0).whole

-- document 02, Q-8: whether a record is padded: its type or its length, those of skipped records too, or, by its type, what is read of its value
unfoldable pub padded_among : (ℕ → List ℕ → Bool) → List Tlv → Bool
padded_among inside [] = false
padded_among inside (t ∷ ts) = (t.padded || inside t.kind t.value) || padded_among inside ts

-- writing: shortest varints
abbrev pub record_bytes : ℕ → List ℕ → List ℕ
record_bytes kind value = delimited kind value

-- the written form of a list of records
unfoldable pub payload : List Tlv → List ℕ
payload [] = []
payload (r ∷ rs) = record_bytes r.kind r.value ++ payload rs
