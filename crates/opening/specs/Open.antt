-- Record 65, document 01, "Transfer": the answers, first that applies.
use Rattle.std.specs.Prelude.{ℕ, List, Bool, true, false, not, ◌&&◌, ◌||◌, take, replicate, eqb, ltb, None, Option, Some}
use Rattle.buffer.specs.Pick.{pick}
use Rattle.csmp.specs.Values.{at_most, field_is}
use Rattle.decode_image.specs.Read.{transfer_of}
use Rattle.csmp.specs.declared.Image.{Image}
use Rattle.decode_image.specs.declared.Transfer.{Transfer}
use Rattle.state.specs.declared.Device.{Device}
use Rattle.state.specs.declared.Images.{Images}
use Rattle.transfer.specs.Blocks.{blocks}
use Rattle.firmware.specs.Place.{is_hash, hash_at, name_at, version_at}
use Rattle.firmware.specs.Answer.{unchanged, is_open}
use Rattle.firmware.specs.declared.Answered.{Answered}

-- 6: a string over its size
unfoldable pub sized_texts : Transfer → Bool
sized_texts t = at_most 32 t.hw_id && (at_most 32 t.vendor_hw_id && (at_most 128 t.name && at_most 32 t.version))

unfoldable pub is_given : Option ℕ → Bool
is_given (Some n) = true
is_given None = false

unfoldable pub number_or0 : Option ℕ → ℕ
number_or0 (Some n) = n
number_or0 None = 0

-- 6: hash, size or block size absent, hash not 32 bytes, size 0
unfoldable pub is_whole : Transfer → Bool
is_whole t = is_hash t.hash && (is_given t.block_size && (not (eqb (number_or0 t.size) 0) && sized_texts t))

-- 1: hwId is absent or not the device's, or a present vendorHwId differs
unfoldable pub is_ours : Device → List ℕ → Transfer → Bool
is_ours d v t =
    field_is (take d.hw_id.len d.hw_id.bytes) v false t.hw_id
    && field_is (take d.vendor_hw_id.len d.vendor_hw_id.bytes) v true t.vendor_hw_id

-- 7 if block size is 0 or over 1,024; 1; 8 if a load is pending; 4 if size exceeds the image buffer or blocks exceed 1,024
unfoldable pub fault_of : Device → Images → List ℕ → Transfer → ℕ → ℕ → ℕ
fault_of d i v t size each =
    pick (eqb each 0 || ltb 1024 each) 7
    (pick (is_ours d v t)
    (pick i.pending.is 8
    (pick (ltb d.image_len size || ltb 1024 (blocks size each)) 4 0))
    1)

-- an image with an empty bitmap: no block is held
unfoldable pub opened_by : List ℕ → Transfer → ℕ → ℕ → Image
opened_by v t size each =
    record {
      hash = hash_at v t.hash;
      name = name_at v t.name;
      version = version_at v t.version;
      size = size;
      block_size = each;
      bitmap = replicate 128 0;
      held = 0;
    }

unfoldable pub replaced : Images → Image → Answered
replaced i image = unchanged (record { running = i.running; «open» = true; image = image; pending = i.pending; backup = i.backup }) 0

-- same hash open: 0 and nothing changed if size and block size agree, else 6; otherwise open
unfoldable pub opens : Images → Image → Answered
opens i image =
    pick (is_open i image.hash)
    (unchanged i (pick (eqb i.image.size image.size && eqb i.image.block_size image.block_size) 0 6))
    (replaced i image)

unfoldable pub open_if : ℕ → Images → Image → Answered
open_if fault i image = pick (eqb fault 0) (opens i image) (unchanged i fault)

-- a request by what was read of it, and by its value
unfoldable pub transfer_taken : Device → Images → List ℕ → Transfer → Answered
transfer_taken d i v t =
    pick (is_whole t)
    (open_if (fault_of d i v t (number_or0 t.size) (number_or0 t.block_size)) i (opened_by v t (number_or0 t.size) (number_or0 t.block_size)))
    (unchanged i 6)

unfoldable pub transfer_answered : Device → Images → List ℕ → Answered
transfer_answered d i v = transfer_taken d i v (transfer_of v)
