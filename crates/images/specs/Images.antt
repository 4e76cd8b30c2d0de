-- FirmwareImageInfo (75), document 01, "Transfer": the running image, the open one and the backup.
use Rattle.std.specs.Prelude.{ℕ, ◌+◌, ◌/◌, List, [], ◌++◌, ◌&&◌, None, Option, Some}
use Rattle.buffer.specs.Pick.{pick}
use Rattle.buffer.specs.Same.{same_bytes}
use Rattle.csmp.specs.declared.Image.{Image}
use Rattle.encode_image.specs.Write.{running_record, open_record, backup_record}
use Rattle.state.specs.declared.Images.{Images}
use Rattle.state.specs.declared.Pending.{Pending}
use Rattle.transfer.specs.Blocks.{blocks}
use Rattle.schedule.specs.declared.Point.{Point}

-- loadTime if the hash is pending
unfoldable pub load_time_of : Pending → List ℕ → Option Point
load_time_of p hash = pick (p.is && same_bytes p.hash hash) (Some p.time) None

-- the bitmap has ceil(blocks/8) bytes
unfoldable pub map_length : Image → ℕ
map_length i = (blocks i.size i.block_size + 7) / 8

-- 75: running; open; backup. The last two show loadTime if their hash is pending
unfoldable pub open_shown : Images → List ℕ
open_shown i = pick i.«open» (open_record i.image (map_length i.image) (load_time_of i.pending i.image.hash)) []

unfoldable pub backup_shown : Images → List ℕ
backup_shown i = pick i.backup.given (backup_record i.backup.bytes (load_time_of i.pending i.backup.bytes)) []

unfoldable pub images_shown : Images → List ℕ
images_shown i = running_record i.running ++ (open_shown i ++ backup_shown i)
