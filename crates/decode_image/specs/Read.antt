-- The readers of messages about images: what the walk by its table tells of a value, and its fields by the rows of the table.
use Rattle.std.specs.Prelude.{ℕ, List}
use Rattle.tables.specs.Found.{Found, found_in, number_in, bytes_in, reading_of}
use Rattle.csmp.specs.Tables.{transfer_request, image_block, load_request, image_hash}
use Rattle.csmp.specs.Values.{moment_of}
use Rattle.message.specs.declared.Reading.{Reading}
use Rattle.decode_image.specs.declared.Transfer.{Transfer}
use Rattle.decode_image.specs.declared.Block.{Block}
use Rattle.decode_image.specs.declared.Load.{Load}
use Rattle.decode_image.specs.declared.ImageHash.{ImageHash}

-- 65: hwInfo is the first row; what its merged parts hold stands in that row's own rows
abbrev pub transfer_by : Reading → Found transfer_request → Transfer
transfer_by r f =
    record {
      reading = r;
      hw_id = bytes_in f.0.1.0.0;
      vendor_hw_id = bytes_in f.0.1.1.0.0;
      hash = bytes_in f.1.0.0;
      name = bytes_in f.1.1.0.0;
      version = bytes_in f.1.1.1.0.0;
      size = number_in f.1.1.1.1.0.0;
      block_size = number_in f.1.1.1.1.1.0.0;
    }

unfoldable pub transfer_of : List ℕ → Transfer
transfer_of v = transfer_by (reading_of transfer_request v) (found_in transfer_request v)

-- 67
abbrev pub block_by : Reading → Found image_block → Block
block_by r f = record { reading = r; hash = bytes_in f.0.0; number = number_in f.1.0.0; «data» = bytes_in f.1.1.0.0 }

unfoldable pub block_of : List ℕ → Block
block_of v = block_by (reading_of image_block v) (found_in image_block v)

-- 68
abbrev pub load_by : Reading → Found load_request → Load
load_by r f = record { reading = r; hash = bytes_in f.0.0; time = moment_of (number_in f.1.0.0) }

unfoldable pub load_of : List ℕ → Load
load_of v = load_by (reading_of load_request v) (found_in load_request v)

-- 69, 70
abbrev pub hash_by : Reading → Found image_hash → ImageHash
hash_by r f = record { reading = r; hash = bytes_in f.0.0 }

unfoldable pub hash_of : List ℕ → ImageHash
hash_of v = hash_by (reading_of image_hash v) (found_in image_hash v)
