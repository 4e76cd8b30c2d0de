-- The records about images that the agent writes: values by the tables, document 01, "Records and fields", "Transfer" and "Requests".
use Rattle.std.specs.Prelude.{ℕ, List, Bool, true, take, None, Option, Some}
use Rattle.protobuf.specs.Given.{if_given}
use Rattle.tables.specs.Table.{write_by}
use Rattle.tlv.specs.Record.{record_bytes}
use Rattle.csmp.specs.Tables
use Rattle.csmp.specs.Values.{moment_number}
use Rattle.csmp.specs.declared.Hash.{Hash}
use Rattle.csmp.specs.declared.Image.{Image}
use Rattle.schedule.specs.declared.Point.{Point}

-- 71 to 74: a hash of 32 bytes is echoed; only 72 has a load time
unfoldable pub response_record : ℕ → Hash → ℕ → Option Point → List ℕ
response_record kind h answer time =
    record_bytes kind
    (write_by Tables.load_response (if_given h.given h.bytes, (Some answer, (moment_number time, tt))))

-- the value of a 75: isDefault, hwInfo and bitmapOffset are not written
abbrev pub image_value : ℕ → List ℕ → Option (List ℕ) → Option (List ℕ) → Option ℕ → Option ℕ → Option (List ℕ) → Option Bool → Option Point → List ℕ
image_value index hash name version size block bitmap running time =
    write_by Tables.image_info
    (Some index, (Some hash, (name, (version, (size, (block, (bitmap, (None, (running, (moment_number time, (None, (None, tt))))))))))))

-- 75: running (index 0, hash, isRunning true)
unfoldable pub running_record : List ℕ → List ℕ
running_record hash = record_bytes 75 (image_value 0 hash None None None None None (Some true) None)

-- 75: open (1, hash, name and version if given, sizes, bitmap), with loadTime if its hash is pending
abbrev pub open_value : Image → ℕ → Option Point → List ℕ
open_value i n time =
    image_value 1 i.hash
    (if_given i.name.given (take i.name.len i.name.bytes))
    (if_given i.version.given (take i.version.len i.version.bytes))
    (Some i.size) (Some i.block_size) (Some (take n i.bitmap)) None time

unfoldable pub open_record : Image → ℕ → Option Point → List ℕ
open_record i n time = record_bytes 75 (open_value i n time)

-- 75: backup (2, hash), with loadTime if its hash is pending
unfoldable pub backup_record : List ℕ → Option Point → List ℕ
backup_record hash time = record_bytes 75 (image_value 2 hash None None None None None None time)
