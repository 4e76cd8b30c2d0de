-- What is proved of this reader, beyond the functions' contracts: it reads ReportSubscribe by its table, by name.
use Rattle.std.specs.Prelude.{ℕ, ◌≡◌, List, [], ◌∷◌, ◌++◌, map, true, ◌&&◌, length, replicate, leb, None, Option, Some}
use Rattle.decimal.specs.Decimal.{ids_among}
use Rattle.decimal.specs.Ids.{held}
use Rattle.protobuf.specs.Write.{each}
use Rattle.tables.specs.Table.{readable, padded, read_by}
use Rattle.csmp.specs.Named.{interval_given, Sample, alone, flagged}
use Rattle.csmp.specs.Tables.{report_subscribe}
use Rattle.decode_report.specs.Report.{report_of}

-- 13 ReportSubscribe: it can be read where its fields can and each list has at most 32 entries; told are the interval and the ids among the texts of tlvid
pub record ReportRead (v : List ℕ) : Type 0 where
  pub reading : (report_of v).reading.readable
      ≡ (readable report_subscribe v && (leb (length (read_by report_subscribe v).1.0) 32 && leb (length (read_by report_subscribe v).1.1.1.0) 32))
  pub padding : (report_of v).reading.padded ≡ padded report_subscribe v
  pub interval : interval_given (report_of v).interval ≡ (read_by report_subscribe v).0
  pub ids : (report_of v).reading.readable ≡ true → held (report_of v).ids ≡ ids_among (read_by report_subscribe v).1.0

abbrev pub ReadByTable : Type 0
ReadByTable = (v : List ℕ) → ReportRead v

-- samples with document 000's field numbers: interval 60, tlvid "11", intervalHeartBeat 120, tlvidHeartBeat "75"
abbrev pub report_sample : List ℕ
report_sample = 0x08 ∷ 0x3C ∷ 0x12 ∷ 0x02 ∷ 0x31 ∷ 0x31 ∷ 0x18 ∷ 0x78 ∷ 0x22 ∷ 0x02 ∷ 0x37 ∷ 0x35 ∷ []

-- tlvid "11", "0x" (no id, ignored) and "7"; the interval as bytes, which is skipped
abbrev pub report_ignored : List ℕ
report_ignored = 0x12 ∷ 0x02 ∷ 0x31 ∷ 0x31 ∷ 0x12 ∷ 0x02 ∷ 0x30 ∷ 0x78 ∷ 0x0A ∷ 0x00 ∷ 0x12 ∷ 0x01 ∷ 0x37 ∷ []

-- intervalHeartBeat 5 and tlvidHeartBeat "18" alone
abbrev pub heartbeat_alone : List ℕ
heartbeat_alone = 0x18 ∷ 0x05 ∷ 0x22 ∷ 0x02 ∷ 0x31 ∷ 0x38 ∷ []

-- so many fields of a tag, each followed by 0: an empty entry of a list, or the number 0
abbrev pub times : ℕ → ℕ → List ℕ
times n tag = each (λ (e : List ℕ). e) (replicate n (tag ∷ 0x00 ∷ []))

-- whether it can be read, the interval, the ids
abbrev pub report_told : List ℕ → List (Option (List ℕ))
report_told v =
    flagged (Some (report_of v).reading.readable) ∷ alone (interval_given (report_of v).interval) ∷ Some (held (report_of v).ids) ∷ []

-- a cut field 3 makes it unreadable, and so does a 33rd entry of either list; one of another wire type, or of field 5, does not
unfoldable pub samples : List Sample
samples =
    record { is = report_told report_sample; should = Some (1 ∷ []) ∷ Some (60 ∷ []) ∷ Some (11 ∷ []) ∷ [] }
    ∷ record { is = report_told report_ignored; should = Some (1 ∷ []) ∷ None ∷ Some (11 ∷ 7 ∷ []) ∷ [] }
    ∷ record { is = report_told heartbeat_alone; should = Some (1 ∷ []) ∷ None ∷ Some [] ∷ [] }
    ∷ record { is = report_told (0x18 ∷ []); should = Some (0 ∷ []) ∷ None ∷ Some [] ∷ [] }
    ∷ record { is = report_told (times 32 0x12); should = Some (1 ∷ []) ∷ None ∷ Some [] ∷ [] }
    ∷ record { is = report_told (times 33 0x12); should = Some (0 ∷ []) ∷ None ∷ Some [] ∷ [] }
    ∷ record { is = report_told (times 32 0x22); should = Some (1 ∷ []) ∷ None ∷ Some [] ∷ [] }
    ∷ record { is = report_told (times 33 0x22); should = Some (0 ∷ []) ∷ None ∷ Some [] ∷ [] }
    ∷ record { is = report_told (times 32 0x12 ++ times 32 0x22); should = Some (1 ∷ []) ∷ None ∷ Some [] ∷ [] }
    ∷ record { is = report_told (times 33 0x20); should = Some (1 ∷ []) ∷ None ∷ Some [] ∷ [] }
    ∷ record { is = report_told (times 33 0x2A); should = Some (1 ∷ []) ∷ None ∷ Some [] ∷ [] }
    ∷ []

abbrev pub Samples : Type 0
Samples = map (λ (x : Sample). x.is) samples ≡ map (λ (x : Sample). x.should) samples
