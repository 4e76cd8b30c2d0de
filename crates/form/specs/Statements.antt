-- What is proved of the written form: of varints, of records, of messages.
use Rattle.std.specs.Prelude.{ℕ, ◌^◌, ◌<◌, ◌≡◌, List, [], ◌∷◌, ◌++◌, map, Bool, true, false, length, drop}
use Rattle.varint.specs.Varint.{varint_at, varint, stands}
use Rattle.tlv.specs.Record.{Tlv, records, payload}
use Rattle.tlv.specs.Statements.{Fitting}
use Rattle.tables.specs.Table.{uint32, bool, strings, message, Table, end, row, Values, read_by, write_by}
use Rattle.tables.specs.Statements.{Small, Formed}
use Rattle.form.specs.Bytes.{AreBytes}
use Rattle.form.specs.Record.{in_form as records_in_form}
use Rattle.form.specs.Form.{in_form}

-- bytes that spell a number and are not padded are those that are written for it
abbrev pub NumberUnchanged : Type 0
NumberUnchanged = (s : List ℕ) (at v next : ℕ) → AreBytes s → varint_at s at ≡ stands v next false → varint v ++ drop next s ≡ drop at s

-- records: what is written is in the written form, and bytes in that form come out unchanged
pub record RecordsFormed : Type 0 where
  pub form : (rs : List Tlv) → Fitting rs → records_in_form (payload rs) ≡ true
  pub unchanged : (s : List ℕ) → AreBytes s → records_in_form s ≡ true → payload (records s) ≡ s

-- messages: what is written is in the written form, and bytes in that form come out unchanged
pub record MessageFormed (T : Table) : Type 0 where
  pub form : (v : Values T) → Small T v → length (write_by T v) < 2 ^ 64 → in_form T (write_by T v) ≡ true
  pub unchanged : (s : List ℕ) → AreBytes s → in_form T s ≡ true → write_by T (read_by T s) ≡ s

abbrev pub MessagesFormed : Type 0
MessagesFormed = (T : Table) → Formed T → MessageFormed T

-- a sample: bytes, and whether they are in the written form
pub record Sample : Type 0 where
  pub bytes : List ℕ
  pub means : Bool

-- a number, a list, and a message that holds a flag
abbrev pub sampled : Table
sampled = row 1 uint32 (row 2 strings (row 3 (message (row 1 bool end)) end))

-- in the form: nothing; every row, a 0 and two entries with it. Not in it: a number, a tag, a length, a number in a message padded; descending; twice; entries apart; an
-- unknown field, one of another wire type; a number of 33 bits; a flag of 2; a field without its end
abbrev pub samples : List Sample
samples =
    record { bytes = []; means = true }
    ∷ record { bytes = 0x08 ∷ 0x00 ∷ 0x12 ∷ 0x01 ∷ 0x61 ∷ 0x12 ∷ 0x00 ∷ 0x1A ∷ 0x02 ∷ 0x08 ∷ 0x01 ∷ []; means = true }
    ∷ record { bytes = 0x08 ∷ 0x85 ∷ 0x00 ∷ []; means = false }
    ∷ record { bytes = 0x88 ∷ 0x00 ∷ 0x05 ∷ []; means = false }
    ∷ record { bytes = 0x12 ∷ 0x81 ∷ 0x00 ∷ 0x61 ∷ []; means = false }
    ∷ record { bytes = 0x1A ∷ 0x03 ∷ 0x08 ∷ 0x81 ∷ 0x00 ∷ []; means = false }
    ∷ record { bytes = 0x12 ∷ 0x00 ∷ 0x08 ∷ 0x05 ∷ []; means = false }
    ∷ record { bytes = 0x08 ∷ 0x05 ∷ 0x08 ∷ 0x05 ∷ []; means = false }
    ∷ record { bytes = 0x12 ∷ 0x00 ∷ 0x1A ∷ 0x00 ∷ 0x12 ∷ 0x00 ∷ []; means = false }
    ∷ record { bytes = 0x08 ∷ 0x05 ∷ 0x20 ∷ 0x05 ∷ []; means = false }
    ∷ record { bytes = 0x0A ∷ 0x00 ∷ []; means = false }
    ∷ record { bytes = 0x08 ∷ 0x80 ∷ 0x80 ∷ 0x80 ∷ 0x80 ∷ 0x10 ∷ []; means = false }
    ∷ record { bytes = 0x1A ∷ 0x02 ∷ 0x08 ∷ 0x02 ∷ []; means = false }
    ∷ record { bytes = 0x12 ∷ 0x01 ∷ []; means = false }
    ∷ []

abbrev pub SamplesJudged : Type 0
SamplesJudged = map (λ (x : Sample). in_form sampled x.bytes) samples ≡ map (λ (x : Sample). x.means) samples
