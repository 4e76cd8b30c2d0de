-- Laws of taking blocks: what each step of the code says of the definitions.
use Rattle.std.specs.Prelude.{None, Some}
use Rattle.std.proofs.Common.{◌≡◌, ℕ, ◌-◌, ◌*◌, ◌<◌, ◌≤◌, Bool, true, false, eqb, ltb, List, length, take, drop, sym, refl, ap, ◌∙◌, ltb-true, le-ltb, lt-ltb, eqb-true}
use lib.Seq.{sets}
use Rattle.buffer.proofs.Tests.{both}
use Rattle.buffer.specs.Pick.{pick}
use Rattle.decode_image.specs.declared.Block.{Block}
use Rattle.csmp.specs.declared.Image.{Image}
use Rattle.csmp.specs.Values.{field_is}
use Rattle.transfer.specs.Bitmap.{held, marked, one_more, with_held}
use Rattle.transfer.specs.Block.{fits_in, fits_at, Flash, put_block, take_of, Parts, Left}
use Rattle.transfer.specs.Blocks.{blocks, block_length}
use Rattle.protobuf.specs.Given.{spanning}

-- a number beyond the blocks does not fit, and another fits by its length
module _ (size each n len : ℕ) where
  pub fits-beyond : blocks size each ≤ n → fits_in size each n len ≡ false
  fits-beyond h = rw (le-ltb n (blocks size each) h)

  pub fits-length : n < blocks size each → fits_in size each n len ≡ eqb len (block_length size each n)
  fits-length h = rw (lt-ltb n (blocks size each) h)

-- what fitting says
pub fits_told : (i : Image) (n len : ℕ) → fits_at i n len ≡ true
    → (n < blocks i.size i.block_size) × (len ≡ block_length i.size i.block_size n)
unfolding fits_at
fits_told i n len h =
    let t = both (ltb n (blocks i.size i.block_size)) (eqb len (block_length i.size i.block_size n)) h in
    (ltb-true n (blocks i.size i.block_size) t.0, eqb-true len (block_length i.size i.block_size n) t.1)

-- what is left is what a definition says
left_by : {f : Flash} {i : Image} {bs : List ℕ} → f ≡ record { image = i; bytes = bs } → Left f i bs
left_by e = record { same-image = sym (ap (λ (x : Flash). x.image) e); same_bytes = sym (ap (λ (x : Flash). x.bytes) e) }

-- a block is put where it fits and is missing
module _ (i : Image) (bs : List ℕ) (n : ℕ) (d : List ℕ) where
  pub put-unfit : fits_at i n (length d) ≡ false → put_block i bs n d ≡ record { image = i; bytes = bs }
  unfolding put_block
  put-unfit h = rw h

  pub put-held : held i.bitmap n ≡ true → put_block i bs n d ≡ record { image = i; bytes = bs }
  unfolding put_block
  put-held h = go (fits_at i n (length d))
    where
      f : Flash
      f = record { image = i; bytes = bs }

      go : (t : Bool) → pick t (pick (held i.bitmap n) f (record { image = with_held i (marked i.bitmap n) (one_more i.held); bytes = sets bs (n * i.block_size) d })) f ≡ f
      go true = rw h
      go false = refl

  pub put-new : fits_at i n (length d) ≡ true → held i.bitmap n ≡ false
      → put_block i bs n d ≡ record { image = with_held i (marked i.bitmap n) (one_more i.held); bytes = sets bs (n * i.block_size) d }
  unfolding put_block
  put-new h g = rw (h, g)

-- the steps of the code, for every image of the parts that it has
module _ (i : Image) (bs : List ℕ) {size each number : ℕ} {map : List ℕ} (p : Parts i size each map number) where
  unchanged : ◌≡◌ {A = Flash} (record { image = i; bytes = bs }) (record { image = with_held i map number; bytes = bs })
  unchanged = rw (← p.mapped, ← p.counted)

  module _ (n : ℕ) (d : List ℕ) where
    fits-parts : fits_at i n (length d) ≡ fits_in size each n (length d)
    unfolding fits_at
    fits-parts = rw (p.sized, p.blocked)

    held-parts : held i.bitmap n ≡ held map n
    held-parts = rw p.mapped

    pub left-unfit : fits_in size each n (length d) ≡ false → Left (put_block i bs n d) (with_held i map number) bs
    left-unfit h = left_by (put-unfit i bs n d (fits-parts ∙ h) ∙ unchanged)

    pub left-held : held map n ≡ true → Left (put_block i bs n d) (with_held i map number) bs
    left-held h = left_by (put-held i bs n d (held-parts ∙ h) ∙ unchanged)

    pub left-new : {marks after : List ℕ} {more : ℕ} → fits_in size each n (length d) ≡ true → held map n ≡ false → marks ≡ marked map n
        → more ≡ one_more number → after ≡ sets bs (n * each) d → Left (put_block i bs n d) (with_held i marks more) after
    left-new h g e o f =
        left_by (put-new i bs n d (fits-parts ∙ h) (held-parts ∙ g) ∙ rw (p.mapped, p.counted, p.blocked, e, o, f))

  -- an offer is taken by its hash, its number and its bytes
  module _ (v : List ℕ) (b : Block) {hash : List ℕ} (e : i.hash ≡ hash) where
    hash-parts : field_is i.hash v false b.hash ≡ field_is hash v false b.hash
    hash-parts = rw e

    pub left_other : field_is hash v false b.hash ≡ false → Left (take_of i bs v b) (with_held i map number) bs
    left_other h = left_by (rw (hash-parts ∙ h) unchanged)

    module _ (h : field_is hash v false b.hash ≡ true) where
      pub left-numberless : b.number ≡ None → Left (take_of i bs v b) (with_held i map number) bs
      left-numberless g = left_by (rw (hash-parts ∙ h, g) unchanged)

      pub left-dataless : {n : ℕ} → b.number ≡ Some n → b.«data» ≡ None → Left (take_of i bs v b) (with_held i map number) bs
      left-dataless g k = left_by (rw (hash-parts ∙ h, g, k) unchanged)

      pub left-this : {n start stop : ℕ} {d after : List ℕ} {image : Image} → b.number ≡ Some n → b.«data» ≡ spanning start stop
          → d ≡ take (stop - start) (drop start v) → Left (put_block i bs n d) image after → Left (take_of i bs v b) image after
      left-this g k f l = rw (hash-parts ∙ h, g, k, ← f) l
