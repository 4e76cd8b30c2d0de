-- The bitmap, document 01, "Transfer": block 0 is the top bit of the first byte; ceil(blocks/8) bytes; spare bits 0. Beside it, document
-- 02, Q-2: the number of blocks held.
use Rattle.std.specs.Prelude.{◌≡◌, ℕ, zero, suc, ◌+◌, ◌-◌, ◌*◌, ◌/◌, ◌%◌, ◌^◌, ◌≤◌, Bool, true, false, List, ◌==◌, nat_lt, slice_index, slice_set}
use Rattle.buffer.specs.Pick.{pick}
use Rattle.csmp.specs.declared.Image.{Image}
use Rattle.transfer.specs.Blocks.{blocks}
use Rattle.transfer.specs.declared.Progress.{Progress}

-- bit j of a byte, counted from the low end
unfoldable pub bit : ℕ → ℕ → Bool
bit zero b = b % 2 == 1
bit (suc j) b = bit j (b / 2)

-- the byte with bit j set
unfoldable pub raised : ℕ → ℕ → ℕ
raised zero b = b / 2 * 2 + 1
raised (suc j) b = raised j (b / 2) * 2 + b % 2

-- a number is held if its bit is 1; the bitmap has room for 1,024
unfoldable pub held : List ℕ → ℕ → Bool
held map n = pick (nat_lt n 1024) (bit (7 - n % 8) (slice_index map (n / 8))) false

unfoldable pub marked : List ℕ → ℕ → List ℕ
marked map n = pick (nat_lt n 1024) (slice_set map (n / 8) (raised (7 - n % 8) (slice_index map (n / 8)))) map

unfoldable pub all_held : ℕ → List ℕ → Bool
all_held zero map = true
all_held (suc n) map = pick (held map n) (all_held n map) false

-- none missing, as document 01 works it out from the bitmap
unfoldable pub none_missing : Image → Bool
none_missing i = all_held (blocks i.size i.block_size) i.bitmap

-- the ones of the first n bits; a bitmap has 1,024
unfoldable pub ones_below : ℕ → List ℕ → ℕ
ones_below zero map = 0
ones_below (suc n) map = pick (held map n) (suc (ones_below n map)) (ones_below n map)

-- one block more is held: the number has 32 bits, and no made state has over 1,024
unfoldable pub one_more : ℕ → ℕ
one_more n = (n + 1) % 2 ^ 32

-- complete is a comparison: as many blocks are held as there are
unfoldable pub complete : Image → Bool
complete i = i.held == blocks i.size i.block_size

-- blocks held, blocks in all, complete or not
unfoldable pub progress_of : Image → Progress
progress_of i = record { held = i.held; blocks = blocks i.size i.block_size; complete = complete i }

-- the number held is that of the ones in the bitmap
abbrev pub CountsOnes : Image → Type 0
CountsOnes i = i.held ≡ ones_below 1024 i.bitmap

-- the same, and spare bits are 0
pub record Counted (i : Image) : Type 0 where
  pub number : CountsOnes i
  pub spare : (n : ℕ) → blocks i.size i.block_size ≤ n → held i.bitmap n ≡ false

-- the image with another bitmap and another number held
abbrev pub with_held : Image → List ℕ → ℕ → Image
with_held i map n =
    record { hash = i.hash; name = i.name; version = i.version; size = i.size; block_size = i.block_size; bitmap = map; held = n }
