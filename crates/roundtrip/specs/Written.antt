-- What is proved of the writers, beyond the functions' contracts.
use Rattle.std.specs.Prelude.{ℕ, ◌^◌, ◌<◌, ◌≡◌, List, [], ◌∷◌, ◌++◌, map, true, false, length, take, replicate, None, Option, Some}
use Rattle.decimal.specs.Decimal.{IsId, decimal, ids_among}
use Rattle.decimal.specs.Ids.{held}
use Rattle.decimal.specs.declared.Ids.{Ids}
use Rattle.protobuf.specs.Each.{IfAny, Each}
use Rattle.protobuf.specs.Given.{bytes_given, if_given}
use Rattle.tables.specs.Statements.{RoundTripped}
use Rattle.tables.specs.Table.{Table, Values, readable, padded, read_by, write_by}
use Rattle.decode.specs.Read.{session_of}
use Rattle.decode_report.specs.Report.{report_of}
use Rattle.schedule.specs.declared.Point.{Point}
use Rattle.tlv.specs.Record.{record_bytes, records, readable as wholly}
use Rattle.csmp.specs.Tables.{tlv_index, session, report_subscribe, current_time, group, response, load_response, image_info, every_table}
use Rattle.csmp.specs.Values.{moment_number, interval_number}
use Rattle.encode.specs.Write.{index_record, session_record, report_record, time_record, group_record}
use Rattle.encode_image.specs.Write.{response_record, running_record, open_record, backup_record}
use Rattle.utf8.specs.Utf8.{IsText}
use Rattle.csmp.specs.declared.Hash.{Hash}
use Rattle.csmp.specs.declared.Image.{Image}
use Rattle.csmp.specs.declared.Index.{Index}
use Rattle.schedule.specs.declared.Length.{Length}
use Rattle.buffer.specs.declared.text.Text.{Text}

-- a sample: what is written, and its bytes
pub record Sample : Type 0 where
  pub written : List ℕ
  pub bytes : List ℕ

-- a hash of 32 times 7
abbrev seven : List ℕ
seven = replicate 32 7

-- document 01, "Sample values": session "ab"; GroupAssign 1, 300; record 72 without hash, answer 6. Behind them, numbered by document 000, some
-- of what else is written: TlvIndex of 11 and 75; ReportSubscribe with nothing in it (document 02, Q-10), and of interval 60 and id 11; CurrentTime 5; a
-- LoadResponse with hash and load time; FirmwareImageInfo of the running image, and of an open one "a", version "b", with block 0 held, that is pending
abbrev pub samples : List Sample
samples =
    record { written = session_record (record { bytes = 97 ∷ 98 ∷ replicate 62 0; len = 2 }); bytes = 0x07 ∷ 0x04 ∷ 0x0A ∷ 0x02 ∷ 0x61 ∷ 0x62 ∷ [] }
    ∷ record { written = record_bytes 55 (write_by group (Some 1, (Some 300, tt))); bytes = 0x37 ∷ 0x05 ∷ 0x08 ∷ 0x01 ∷ 0x10 ∷ 0xAC ∷ 0x02 ∷ [] }
    ∷ record { written = response_record 72 (record { given = false; bytes = replicate 32 0 }) 6 None; bytes = 0x48 ∷ 0x02 ∷ 0x10 ∷ 0x06 ∷ [] }
    ∷ record { written = index_record (record { list = 11 ∷ 75 ∷ replicate 66 0; count = 2 }); bytes = 0x01 ∷ 0x08 ∷ 0x0A ∷ 0x02 ∷ 0x31 ∷ 0x31 ∷ 0x0A ∷ 0x02 ∷ 0x37 ∷ 0x35 ∷ [] }
    ∷ record { written = report_record None (record { list = replicate 32 0; count = 0 }); bytes = 0x0D ∷ 0x00 ∷ [] }
    ∷ record {
      written = report_record (Some (record { 0 = 60 })) (record { list = 11 ∷ replicate 31 0; count = 1 });
      bytes = 0x0D ∷ 0x06 ∷ 0x08 ∷ 0x3C ∷ 0x12 ∷ 0x02 ∷ 0x31 ∷ 0x31 ∷ [];
    }
    ∷ record { written = time_record (record { 0 = 5 }); bytes = 0x12 ∷ 0x02 ∷ 0x08 ∷ 0x05 ∷ [] }
    ∷ record {
      written = response_record 72 (record { given = true; bytes = seven }) 0 (Some (record { 0 = 5 }));
      bytes = 0x48 ∷ 0x26 ∷ 0x0A ∷ 0x20 ∷ (seven ++ (0x10 ∷ 0x00 ∷ 0x18 ∷ 0x05 ∷ []));
    }
    ∷ record { written = running_record seven; bytes = 0x4B ∷ 0x26 ∷ 0x08 ∷ 0x00 ∷ 0x12 ∷ 0x20 ∷ (seven ++ (0x48 ∷ 0x01 ∷ [])) }
    ∷ record {
      written =
          open_record
          (record {
            hash = seven;
            name = record { given = true; bytes = 97 ∷ replicate 127 0; len = 1 };
            version = record { given = true; bytes = 98 ∷ replicate 31 0; len = 1 };
            size = 2;
            block_size = 1;
            bitmap = 128 ∷ replicate 127 0;
            held = 1;
          })
          1 (Some (record { 0 = 5 }));
      bytes =
          0x4B ∷ 0x33 ∷ 0x08 ∷ 0x01 ∷ 0x12 ∷ 0x20
          ∷ (seven
          ++ (0x1A ∷ 0x01 ∷ 0x61 ∷ 0x22 ∷ 0x01 ∷ 0x62 ∷ 0x28 ∷ 0x02 ∷ 0x30 ∷ 0x01 ∷ 0x3A ∷ 0x01 ∷ 0x80 ∷ 0x50 ∷ 0x05 ∷ []));
    }
    ∷ []

abbrev pub Samples : Type 0
Samples = map (λ (x : Sample). x.written) samples ≡ map (λ (x : Sample). x.bytes) samples

-- bytes that are, as a payload, exactly one record of type k, and whose value read by table T gives v; no varint of them is padded
pub record Back (k : ℕ) (T : Table) (v : Values T) (bytes : List ℕ) : Type 0 where
  pub form : bytes ≡ record_bytes k (write_by T v)
  pub one : records bytes ≡ record { kind = k; value = write_by T v; padded = false } ∷ []
  pub whole : wholly bytes ≡ true
  pub fields : readable T (write_by T v) ≡ true
  pub unpadded : padded T (write_by T v) ≡ false
  pub values : read_by T (write_by T v) ≡ v

-- a number that is given is below 2^32
abbrev pub Below : Option ℕ → Type 0
Below n = IfAny (λ (x : ℕ). x < 2 ^ 32) n

-- what the types of an image's fields say
pub record Typed (i : Image) : Type 0 where
  pub hash : length i.hash ≡ 32
  pub name : length i.name.bytes ≡ 128
  pub version : length i.version.bytes ≡ 32
  pub size : i.size < 2 ^ 32
  pub block : i.block_size < 2 ^ 32
  pub bitmap : length i.bitmap ≡ 128

-- a response with no load time
abbrev pub Answered : ℕ → Type 0
Answered k =
    (h : Hash) (answer : ℕ) → length h.bytes ≡ 32 → answer < 2 ^ 32
    → Back k response (if_given h.given h.bytes, (Some answer, tt)) (response_record k h answer None)

-- what the agent writes reads back, where the strings that it writes are text
pub record WrittenBack : Type 0 where
  -- 1 TlvIndex
  pub index : (i : Index) → length i.list ≡ 68 → Each IsId (take i.count i.list) → Back 1 tlv_index (map decimal (take i.count i.list), tt) (index_record i)
  -- 7 SessionID
  pub session_id : (s : Text 64) → length s.bytes ≡ 64 → IsText (take s.len s.bytes) → Back 7 session (Some (take s.len s.bytes), tt) (session_record s)
  -- 13 ReportSubscribe
  pub report : (i : Option Length) (ids : Ids) → Below (interval_number i) → length ids.list ≡ 32 → Each IsId (held ids)
      → Back 13 report_subscribe (interval_number i, (map decimal (held ids), (None, ([], tt)))) (report_record i ids)
  -- 18 CurrentTime
  pub time : (p : Point) → p.0 < 2 ^ 32 → Back 18 current_time (Some p.0, (None, (None, tt))) (time_record p)
  -- 58 GroupInfo
  pub group_info : (kind id : ℕ) → kind < 2 ^ 32 → id < 2 ^ 32 → Back 58 group (Some kind, (Some id, tt)) (group_record kind id)
  -- 71 TransferResponse
  pub transferred : Answered 71
  -- 72 LoadResponse
  pub loaded : (h : Hash) (answer : ℕ) (t : Option Point) → length h.bytes ≡ 32 → answer < 2 ^ 32 → Below (moment_number t)
      → Back 72 load_response (if_given h.given h.bytes, (Some answer, (moment_number t, tt))) (response_record 72 h answer t)
  -- 73 CancelLoadResponse
  pub cancelled : Answered 73
  -- 74 SetBackupResponse
  pub backed_up : Answered 74
  -- 75 FirmwareImageInfo: running, open, backup
  pub running : (hash : List ℕ) → length hash ≡ 32
      → Back 75 image_info (Some 0, (Some hash, (None, (None, (None, (None, (None, (None, (Some true, (None, (None, (None, tt)))))))))))) (running_record hash)
  pub opened : (i : Image) (n : ℕ) (t : Option Point) → Typed i → IsText (take i.name.len i.name.bytes) → IsText (take i.version.len i.version.bytes)
      → Below (moment_number t)
      → Back 75 image_info
      (Some 1, (Some i.hash, (if_given i.name.given (take i.name.len i.name.bytes), (if_given i.version.given (take i.version.len i.version.bytes), (Some i.size, (Some i.block_size, (Some (take n i.bitmap), (None, (None, (moment_number t, (None, (None, tt))))))))))))
      (open_record i n t)
  pub backup : (hash : List ℕ) (t : Option Point) → length hash ≡ 32 → Below (moment_number t)
      → Back 75 image_info (Some 2, (Some hash, (None, (None, (None, (None, (None, (None, (None, (moment_number t, (None, (None, tt)))))))))))) (backup_record hash t)
  -- the ids of 1 and 13 are those among the texts
  pub ids : (ids : List ℕ) → Each IsId ids → ids_among (map decimal ids) ≡ ids

-- so it is with every message that is read or written
abbrev pub EveryMessage : Type 0
EveryMessage = Each RoundTripped every_table

-- 7 and 13 are read by the code's own readers as they were written
pub record OwnReaders : Type 0 where
  pub session_id : (s : Text 64) → length s.bytes ≡ 64 → IsText (take s.len s.bytes)
      → let v = write_by session (Some (take s.len s.bytes), tt) in
      (session_record s ≡ record_bytes 7 v) × ((session_of v).reading.readable ≡ true) × (bytes_given v (session_of v).id ≡ Some (take s.len s.bytes))
  pub report : (i : Option Length) (ids : Ids) → Below (interval_number i) → length ids.list ≡ 32 → Each IsId (held ids)
      → let v = write_by report_subscribe (interval_number i, (map decimal (held ids), (None, ([], tt)))) in
      (report_record i ids ≡ record_bytes 13 v) × ((report_of v).reading.readable ≡ true) × ((report_of v).interval ≡ i) × (held (report_of v).ids ≡ held ids)
