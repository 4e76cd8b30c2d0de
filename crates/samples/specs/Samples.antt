-- Document 01, "Sample values": the cases marked *, in its order, as one statement over a list. What is written is told by its bytes. What is read
-- is shown as numbers: a varint or a field that is refused or absent shows none, and one that is there at least one.
use Rattle.std.specs.Prelude.{ℕ, zero, suc, ◌-◌, ◌^◌, ◌≡◌, List, [], ◌∷◌, ◌++◌, map, false, length, take, replicate, None, Option, Some}
use Rattle.buffer.specs.Pick.{pick}
use Rattle.varint.specs.Varint.{varint_at, varint}
use Rattle.schedule.specs.declared.Length.{Length}
use Rattle.tlv.specs.Record.{Tlv, records, readable, record_bytes}
use Rattle.protobuf.specs.Given.{bytes_given}
use Rattle.tables.specs.Table.{write_by}
use Rattle.csmp.specs.Tables.{group}
use Rattle.csmp.specs.declared.Image.{Image}
use Rattle.decode.specs.Read.{session_of, group_of}
use Rattle.encode.specs.Write.{session_record}
use Rattle.encode_image.specs.Write.{response_record}
use Rattle.transfer.specs.Blocks.{blocks, block_length}
use Rattle.transfer.specs.Bitmap.{held, marked}
use Rattle.images.specs.Images.{map_length}
use Rattle.registration.specs.Backoff.{doubled}
use Rattle.varint.specs.declared.Varint.{Varint}

-- a sample: what the definitions give, and what it should be
pub record Sample : Type 0 where
  pub is : List ℕ
  pub should : List ℕ

-- a varint at the start of bytes: its number, where it ends, and 1 where it is padded (document 02, Q-8)
abbrev pub varint_shown : Option Varint → List ℕ
varint_shown (Some x) = x.value ∷ x.next ∷ pick x.padded 1 0 ∷ []
varint_shown None = []

abbrev pub varint_read : List ℕ → List ℕ
varint_read s = varint_shown (varint_at s 0)

-- a field: a number; bytes behind their length, so that empty ones are not absent
abbrev pub number_shown : Option ℕ → List ℕ
number_shown None = []
number_shown (Some n) = n ∷ []

abbrev pub bytes_shown : Option (List ℕ) → List ℕ
bytes_shown None = []
bytes_shown (Some bs) = length bs ∷ bs

-- a payload of one record: its type, then its value as a reader shows it
abbrev pub one_shown : (List ℕ → List ℕ) → List Tlv → List ℕ
one_shown shown [] = []
one_shown shown (t ∷ []) = t.kind ∷ shown t.value
one_shown shown (t ∷ u ∷ ts) = []

abbrev pub record_read : (List ℕ → List ℕ) → List ℕ → List ℕ
record_read shown s = pick (readable s) (one_shown shown (records s)) []

-- 7: the id
abbrev pub session_shown : List ℕ → List ℕ
session_shown v = pick (session_of v).reading.readable (bytes_shown (bytes_given v (session_of v).id)) []

-- 55: type, id
abbrev pub group_shown : List ℕ → List ℕ
group_shown v = pick (group_of v).reading.readable (number_shown (group_of v).kind ++ number_shown (group_of v).id) []

-- session "ab"
abbrev pub session_bytes : List ℕ
session_bytes = 0x07 ∷ 0x04 ∷ 0x0A ∷ 0x02 ∷ 0x61 ∷ 0x62 ∷ []

-- GroupAssign 1, 300
abbrev pub group_bytes : List ℕ
group_bytes = 0x37 ∷ 0x05 ∷ 0x08 ∷ 0x01 ∷ 0x10 ∷ 0xAC ∷ 0x02 ∷ []

-- an image of size 2,500 by 1,000, blocks 0 and 2 held
abbrev pub partly_held : Image
partly_held =
    record {
      hash = replicate 32 0;
      name = record { given = false; bytes = replicate 128 0; len = 0 };
      version = record { given = false; bytes = replicate 32 0; len = 0 };
      size = 2500;
      block_size = 1000;
      bitmap = marked (marked (replicate 128 0) 0) 2;
      held = 2;
    }

-- the intervals of so many rounds, one after the other
unfoldable pub intervals : ℕ → Length → Length → List ℕ
intervals zero i largest = []
intervals (suc n) i largest = i.0 ∷ intervals n (doubled i largest) largest

unfoldable pub samples : List Sample
samples =
    -- 300 = `AC 02`
    record { is = varint 300; should = 0xAC ∷ 0x02 ∷ [] }
    ∷ record { is = varint_read (0xAC ∷ 0x02 ∷ []); should = 300 ∷ 2 ∷ 0 ∷ [] }
    -- `81 00` = 1
    ∷ record { is = varint_read (0x81 ∷ 0x00 ∷ []); should = 1 ∷ 2 ∷ 1 ∷ [] }
    -- nine `FF` and `01` = 2^64 - 1, with `02` refused
    ∷ record { is = varint (2 ^ 64 - 1); should = replicate 9 0xFF ++ (0x01 ∷ []) }
    ∷ record { is = varint_read (replicate 9 0xFF ++ (0x01 ∷ [])); should = (2 ^ 64 - 1) ∷ 10 ∷ 0 ∷ [] }
    ∷ record { is = varint_read (replicate 9 0xFF ++ (0x02 ∷ [])); should = [] }
    -- session "ab" `07 04 0A 02 61 62`
    ∷ record { is = session_record (record { bytes = 0x61 ∷ 0x62 ∷ replicate 62 0; len = 2 }); should = session_bytes }
    ∷ record { is = record_read session_shown session_bytes; should = 7 ∷ 2 ∷ 0x61 ∷ 0x62 ∷ [] }
    -- GroupAssign 1, 300 `37 05 08 01 10 AC 02`
    ∷ record { is = record_bytes 55 (write_by group (Some 1, (Some 300, tt))); should = group_bytes }
    ∷ record { is = record_read group_shown group_bytes; should = 55 ∷ 1 ∷ 300 ∷ [] }
    -- 72 without hash, answer 6 `48 02 10 06`
    ∷ record { is = response_record 72 (record { given = false; bytes = replicate 32 0 }) 6 None; should = 0x48 ∷ 0x02 ∷ 0x10 ∷ 0x06 ∷ [] }
    -- size 2,500 by 1,000: 3 blocks, last 500
    ∷ record { is = blocks 2500 1000 ∷ map (block_length 2500 1000) (0 ∷ 1 ∷ 2 ∷ []); should = 3 ∷ 1000 ∷ 1000 ∷ 500 ∷ [] }
    -- blocks 0 and 2 held: `A0`
    ∷ record { is = take (map_length partly_held) partly_held.bitmap; should = 0xA0 ∷ [] }
    ∷ record { is = map (λ (n : ℕ). pick (held (0xA0 ∷ []) n) 1 0) (0 ∷ 1 ∷ 2 ∷ 3 ∷ []); should = 1 ∷ 0 ∷ 1 ∷ 0 ∷ [] }
    -- intervals 300, 600, 1200, 2400, 3600, 3600
    ∷ record { is = intervals 6 (record { 0 = 300 }) (record { 0 = 3600 }); should = 300 ∷ 600 ∷ 1200 ∷ 2400 ∷ 3600 ∷ 3600 ∷ [] }
    -- size 1: one block
    ∷ record { is = blocks 1 1 ∷ blocks 1 1024 ∷ block_length 1 1 0 ∷ block_length 1 1024 0 ∷ []; should = 1 ∷ 1 ∷ 1 ∷ 1 ∷ [] }
    ∷ []

abbrev pub Samples : Type 0
Samples = map (λ (x : Sample). x.is) samples ≡ map (λ (x : Sample). x.should) samples
