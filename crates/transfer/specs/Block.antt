-- Taking blocks, document 01, "Transfer", record 67.
use Rattle.std.specs.Prelude.{◌≡◌, ℕ, ◌*◌, ◌≤◌, Bool, false, ◌&&◌, List, length, ◌==◌, nat_lt, None, Option, Some}
use Rattle.std.proofs.lemmas.List.Edits.{sets}
use Rattle.buffer.specs.Pick.{pick}
use Rattle.decode_image.specs.Read.{block_of}
use Rattle.decode_image.specs.declared.Block.{Block}
use Rattle.csmp.specs.Values.{field_is}
use Rattle.csmp.specs.declared.Image.{Image}
use Rattle.protobuf.specs.Given.{bytes_given}
use Rattle.transfer.specs.Blocks.{blocks, block_length}
use Rattle.transfer.specs.Bitmap.{held, marked, one_more, Counted, with_held}

-- the number is in range, and the data has exactly the block's length
abbrev pub fits_in : ℕ → ℕ → ℕ → ℕ → Bool
fits_in size each n len = nat_lt n (blocks size each) && len == block_length size each n

unfoldable pub fits_at : Image → ℕ → ℕ → Bool
fits_at i n len = fits_in i.size i.block_size n len

-- an open image and the bytes of the image buffer
pub record Flash : Type 0 where
  pub image : Image
  pub bytes : List ℕ

-- a fitting block not yet held is written into its stretch of the image buffer only, and counted; others change nothing
unfoldable pub put_block : Image → List ℕ → ℕ → List ℕ → Flash
put_block i bs n dat =
    pick (fits_at i n (length dat))
    (pick (held i.bitmap n) (record { image = i; bytes = bs })
    (record { image = with_held i (marked i.bitmap n) (one_more i.held); bytes = sets bs (n * i.block_size) dat }))
    (record { image = i; bytes = bs })

-- an open image that the bitmap and the buffer have room for, its blocks counted
pub record Sound (i : Image) (bs : List ℕ) : Type 0 where
  pub blocked : 1 ≤ i.block_size
  pub numbered : blocks i.size i.block_size ≤ 1024
  pub room : i.size ≤ length bs
  pub mapped : length i.bitmap ≡ 128
  pub counted : Counted i

-- the number and the data that an ImageBlock offers to the open image: its hash is the open one, and both are present
pub record Offer : Type 0 where
  pub number : ℕ
  pub bytes : List ℕ

abbrev pub offer_of : Option ℕ → Option (List ℕ) → Option Offer
offer_of None d = None
offer_of (Some n) None = None
offer_of (Some n) (Some bs) = Some (record { number = n; bytes = bs })

abbrev pub offered_by : Image → List ℕ → Block → Option Offer
offered_by i v b = pick (field_is i.hash v false b.hash) (offer_of b.number (bytes_given v b.«data»)) None

unfoldable pub offered : Image → List ℕ → Option Offer
offered i v = offered_by i v (block_of v)

abbrev pub put_offer : Image → List ℕ → Option Offer → Flash
put_offer i bs None = record { image = i; bytes = bs }
put_offer i bs (Some o) = put_block i bs o.number o.bytes

-- an ImageBlock's value, and what it says
abbrev pub take_of : Image → List ℕ → List ℕ → Block → Flash
take_of i bs v b = put_offer i bs (offered_by i v b)

unfoldable pub take_block : Image → List ℕ → List ℕ → Flash
take_block i bs v = put_offer i bs (offered i v)

-- an image of these sizes with this bitmap and this number of blocks held, whatever its name and version
pub record Parts (i : Image) (size each : ℕ) (map : List ℕ) (number : ℕ) : Type 0 where
  pub sized : i.size ≡ size
  pub blocked : i.block_size ≡ each
  pub mapped : i.bitmap ≡ map
  pub counted : i.held ≡ number

-- what a call leaves of the open image and the buffer
pub record Left (f : Flash) (image : Image) (bytes : List ℕ) : Type 0 where
  pub same-image : image ≡ f.image
  pub same_bytes : bytes ≡ f.bytes
