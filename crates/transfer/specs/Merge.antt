-- Merges of two feeds of blocks, document 01, "Transfer": each of both once, each feed's in order.
use Rattle.std.specs.Prelude.{◌≡◌, ℕ, ◌*◌, ◌<◌, Bool, true, false, ◌&&◌, ◌||◌, List, [], ◌∷◌, length, take, drop, ◌==◌, None, Option, Some}
use Rattle.buffer.specs.Pick.{pick}
use Rattle.csmp.specs.declared.Image.{Image}
use Rattle.protobuf.specs.Each.{Each}
use Rattle.transfer.specs.Blocks.{blocks, block_length}
use Rattle.transfer.specs.Bitmap.{held, complete, CountsOnes, with_held}
use Rattle.transfer.specs.Block.{Flash, Offer, Sound, fits_at, put_block}

pub data Merge {A : Type 0} : List A → List A → List A → Type 0 where
  none : Merge [] [] []
  first : {a : A} {xs ys zs : List A} → Merge xs ys zs → Merge (a ∷ xs) ys (a ∷ zs)
  second : {b : A} {xs ys zs : List A} → Merge xs ys zs → Merge xs (b ∷ ys) (b ∷ zs)

-- blocks put one after the other
unfoldable pub put_all : List Offer → Flash → Flash
put_all [] f = f
put_all (o ∷ os) f = put_all os (put_block f.image f.bytes o.number o.bytes)

-- two blocks agree unless both fit, have one number that is missing, and other bytes
abbrev pub Agree : Image → Offer → Offer → Type 0
Agree i a b =
    a.number ≡ b.number → held i.bitmap a.number ≡ false → fits_at i a.number (length a.bytes) ≡ true
    → fits_at i b.number (length b.bytes) ≡ true → a.bytes ≡ b.bytes

-- two feeds agree where their blocks do, on the numbers missing at the start
abbrev pub Agreeing : Image → List Offer → List Offer → Type 0
Agreeing i xs ys = Each (λ (a : Offer). Each (λ (b : Offer). Agree i a b) ys) xs

-- every merge leaves what the first feed followed by the second leaves
abbrev pub Merges : Type 0
Merges =
    (f : Flash) (xs ys zs : List Offer) → Merge xs ys zs → Agreeing f.image xs ys → put_all zs f ≡ put_all ys (put_all xs f)

-- the bytes of block n in the image buffer
abbrev pub block_at : Image → List ℕ → ℕ → List ℕ
block_at i bs n = take (block_length i.size i.block_size n) (drop (n * i.block_size) bs)

-- the bytes of the first block of number n that fits, if one came
unfoldable pub came : Image → ℕ → List Offer → Option (List ℕ)
came i n [] = None
came i n (o ∷ os) = pick (o.number == n && fits_at i n (length o.bytes)) (Some o.bytes) (came i n os)

abbrev pub is_some : {A : Type 0} → Option A → Bool
is_some None = false
is_some (Some a) = true

-- what blocks put one after the other leave: held blocks are kept, new ones are in place with their bit, the number held moves with the
-- bits, all else is as it was, and the image is complete exactly when every block number was held or came
pub record Ended (f : Flash) (os : List Offer) (e : Flash) : Type 0 where
  pub kept : (n : ℕ) → held f.image.bitmap n ≡ true
      → (held e.image.bitmap n ≡ true) × (block_at f.image e.bytes n ≡ block_at f.image f.bytes n)
  pub new : (n : ℕ) (bs : List ℕ) → held f.image.bitmap n ≡ false → came f.image n os ≡ Some bs
      → (held e.image.bitmap n ≡ true) × (block_at f.image e.bytes n ≡ bs)
  pub missing : (n : ℕ) → held f.image.bitmap n ≡ false → came f.image n os ≡ None
      → (held e.image.bitmap n ≡ false) × (block_at f.image e.bytes n ≡ block_at f.image f.bytes n)
  pub number : CountsOnes e.image
  pub image : e.image ≡ with_held f.image e.image.bitmap e.image.held
  pub behind : drop f.image.size e.bytes ≡ drop f.image.size f.bytes
  pub long : length e.bytes ≡ length f.bytes
  pub done : complete e.image ≡ true → (n : ℕ) → n < blocks f.image.size f.image.block_size
      → (held f.image.bitmap n || is_some (came f.image n os)) ≡ true
  pub enough : ((n : ℕ) → n < blocks f.image.size f.image.block_size → (held f.image.bitmap n || is_some (came f.image n os)) ≡ true)
      → complete e.image ≡ true

abbrev pub Ends : Type 0
Ends = (f : Flash) (os : List Offer) → Sound f.image f.bytes → Ended f os (put_all os f)
