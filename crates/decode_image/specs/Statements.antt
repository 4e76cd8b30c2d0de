-- What is proved of these readers, beyond the functions' contracts: each reads its message by its table, by name.
use Rattle.std.specs.Prelude.{ℕ, ◌≡◌, List, [], ◌∷◌, ◌++◌, map, Bool, true, false, None, Option, Some}
use Rattle.protobuf.specs.Given.{bytes_given}
use Rattle.tables.specs.Table.{Table, readable, padded, read_by}
use Rattle.csmp.specs.Named.{moment_given, in_part, Sample, alone, sample_hash}
use Rattle.csmp.specs.Tables.{transfer_request, image_block, load_request, image_hash}
use Rattle.decode_image.specs.Read.{transfer_of, block_of, load_of, hash_of}

-- 65 TransferRequest
pub record TransferRead (v : List ℕ) : Type 0 where
  pub reading : (transfer_of v).reading.readable ≡ readable transfer_request v
  pub padding : (transfer_of v).reading.padded ≡ padded transfer_request v
  pub hw_id : bytes_given v (transfer_of v).hw_id ≡ in_part (λ h. h.0) (read_by transfer_request v).0
  pub vendor_hw_id : bytes_given v (transfer_of v).vendor_hw_id ≡ in_part (λ h. h.1.0) (read_by transfer_request v).0
  pub file_hash : bytes_given v (transfer_of v).hash ≡ (read_by transfer_request v).1.0
  pub file_name : bytes_given v (transfer_of v).name ≡ (read_by transfer_request v).1.1.0
  pub version : bytes_given v (transfer_of v).version ≡ (read_by transfer_request v).1.1.1.0
  pub file_size : (transfer_of v).size ≡ (read_by transfer_request v).1.1.1.1.0
  pub block_size : (transfer_of v).block_size ≡ (read_by transfer_request v).1.1.1.1.1.0

-- 67 ImageBlock
pub record BlockRead (v : List ℕ) : Type 0 where
  pub reading : (block_of v).reading.readable ≡ readable image_block v
  pub padding : (block_of v).reading.padded ≡ padded image_block v
  pub file_hash : bytes_given v (block_of v).hash ≡ (read_by image_block v).0
  pub block_num : (block_of v).number ≡ (read_by image_block v).1.0
  pub block_data : bytes_given v (block_of v).«data» ≡ (read_by image_block v).1.1.0

-- 68 LoadRequest
pub record LoadRead (v : List ℕ) : Type 0 where
  pub reading : (load_of v).reading.readable ≡ readable load_request v
  pub padding : (load_of v).reading.padded ≡ padded load_request v
  pub file_hash : bytes_given v (load_of v).hash ≡ (read_by load_request v).0
  pub load_time : moment_given (load_of v).time ≡ (read_by load_request v).1.0

-- 69 CancelLoadRequest, 70 SetBackupRequest
pub record HashRead (v : List ℕ) : Type 0 where
  pub reading : (hash_of v).reading.readable ≡ readable image_hash v
  pub padding : (hash_of v).reading.padded ≡ padded image_hash v
  pub file_hash : bytes_given v (hash_of v).hash ≡ (read_by image_hash v).0

-- all of them
pub record ReadByTables : Type 0 where
  pub transfers : (v : List ℕ) → TransferRead v
  pub blocks : (v : List ℕ) → BlockRead v
  pub loads : (v : List ℕ) → LoadRead v
  pub hashes : (v : List ℕ) → HashRead v

-- samples with document 000's field numbers: hwInfo (hwId "h", vendorHwId "v"), fileHash, fileName "n", version "r", fileSize 1,000, blockSize 64
abbrev pub transfer_sample : List ℕ
transfer_sample =
    (0x0A ∷ 0x06 ∷ 0x0A ∷ 0x01 ∷ 0x68 ∷ 0x12 ∷ 0x01 ∷ 0x76 ∷ 0x12 ∷ 0x20 ∷ []) ++ (sample_hash
    ++ (0x1A ∷ 0x01 ∷ 0x6E ∷ 0x22 ∷ 0x01 ∷ 0x72 ∷ 0x28 ∷ 0xE8 ∷ 0x07 ∷ 0x30 ∷ 0x40 ∷ []))

-- hwInfo in two parts: hwId "h" and vendorHwId "v", then hwId "k"; blockSize 0 alone beside it
abbrev pub transfer_in_parts : List ℕ
transfer_in_parts = 0x0A ∷ 0x06 ∷ 0x0A ∷ 0x01 ∷ 0x68 ∷ 0x12 ∷ 0x01 ∷ 0x76 ∷ 0x30 ∷ 0x00 ∷ 0x0A ∷ 0x03 ∷ 0x0A ∷ 0x01 ∷ 0x6B ∷ []

-- fileHash, blockNum 5, blockData "ab"
abbrev pub block_sample : List ℕ
block_sample = (0x0A ∷ 0x20 ∷ []) ++ (sample_hash ++ (0x10 ∷ 0x05 ∷ 0x22 ∷ 0x02 ∷ 0x61 ∷ 0x62 ∷ []))

-- fileHash, loadTime 100
abbrev pub load_sample : List ℕ
load_sample = (0x0A ∷ 0x20 ∷ []) ++ (sample_hash ++ (0x10 ∷ 0x64 ∷ []))

-- fileHash
abbrev pub hash_sample : List ℕ
hash_sample = (0x0A ∷ 0x20 ∷ []) ++ sample_hash

abbrev pub transfer_shown : List ℕ → List (Option (List ℕ))
transfer_shown v =
    bytes_given v (transfer_of v).hw_id ∷ bytes_given v (transfer_of v).vendor_hw_id ∷ bytes_given v (transfer_of v).hash
    ∷ bytes_given v (transfer_of v).name ∷ bytes_given v (transfer_of v).version ∷ alone (transfer_of v).size
    ∷ alone (transfer_of v).block_size ∷ []

unfoldable pub samples : List Sample
samples =
    record {
      is = transfer_shown transfer_sample;
      should =
          Some (0x68 ∷ []) ∷ Some (0x76 ∷ []) ∷ Some sample_hash ∷ Some (0x6E ∷ []) ∷ Some (0x72 ∷ []) ∷ Some (1000 ∷ []) ∷ Some (64 ∷ []) ∷ [];
    }
    ∷ record {
      is = transfer_shown transfer_in_parts;
      should = Some (0x6B ∷ []) ∷ Some (0x76 ∷ []) ∷ None ∷ None ∷ None ∷ None ∷ Some (0 ∷ []) ∷ [];
    }
    ∷ record {
      is =
          bytes_given block_sample (block_of block_sample).hash ∷ alone (block_of block_sample).number
          ∷ bytes_given block_sample (block_of block_sample).«data» ∷ [];
      should = Some sample_hash ∷ Some (5 ∷ []) ∷ Some (0x61 ∷ 0x62 ∷ []) ∷ [];
    }
    ∷ record {
      is = bytes_given load_sample (load_of load_sample).hash ∷ alone (moment_given (load_of load_sample).time) ∷ [];
      should = Some sample_hash ∷ Some (100 ∷ []) ∷ [];
    }
    ∷ record { is = bytes_given hash_sample (hash_of hash_sample).hash ∷ []; should = Some sample_hash ∷ [] }
    ∷ []

abbrev pub Samples : Type 0
Samples = map (λ (x : Sample). x.is) samples ≡ map (λ (x : Sample). x.should) samples

-- document 02, Q-8: what counts as padded in a value
pub record Padding : Type 0 where
  pub table : Table
  pub bytes : List ℕ
  pub means : Bool

-- by image_hash: fileHash; its tag padded; its length; the number of field 15, which is skipped; its tag; its length; its bytes don't count. By
-- transfer_request: a tag within hwInfo; the number of a field 1 that is no message, skipped; the bytes of fileName don't count; its length, where it is no text
unfoldable pub paddings : List Padding
paddings =
    record { table = image_hash; bytes = 0x0A ∷ 0x00 ∷ []; means = false }
    ∷ record { table = image_hash; bytes = 0x8A ∷ 0x00 ∷ 0x00 ∷ []; means = true }
    ∷ record { table = image_hash; bytes = 0x0A ∷ 0x80 ∷ 0x00 ∷ []; means = true }
    ∷ record { table = image_hash; bytes = 0x78 ∷ 0x83 ∷ 0x00 ∷ []; means = true }
    ∷ record { table = image_hash; bytes = 0xF8 ∷ 0x00 ∷ 0x03 ∷ []; means = true }
    ∷ record { table = image_hash; bytes = 0x7A ∷ 0x80 ∷ 0x00 ∷ []; means = true }
    ∷ record { table = image_hash; bytes = 0x7A ∷ 0x02 ∷ 0x81 ∷ 0x00 ∷ []; means = false }
    ∷ record { table = transfer_request; bytes = 0x0A ∷ 0x03 ∷ 0x8A ∷ 0x00 ∷ 0x00 ∷ []; means = true }
    ∷ record { table = transfer_request; bytes = 0x08 ∷ 0x81 ∷ 0x00 ∷ []; means = true }
    ∷ record { table = transfer_request; bytes = 0x1A ∷ 0x02 ∷ 0x8A ∷ 0x00 ∷ []; means = false }
    ∷ record { table = transfer_request; bytes = 0x1A ∷ 0x81 ∷ 0x00 ∷ 0xFF ∷ []; means = true }
    ∷ []

abbrev pub Paddings : Type 0
Paddings = map (λ (x : Padding). padded x.table x.bytes) paddings ≡ map (λ (x : Padding). x.means) paddings
