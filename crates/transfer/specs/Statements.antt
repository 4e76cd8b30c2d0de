-- What is proved of the transfer, beyond the functions' contracts.
use Rattle.std.specs.Prelude.{◌≡◌, ℕ, List, [], ◌∷◌, map, replicate, slice_index}
use Rattle.csmp.specs.declared.Image.{Image}
use Rattle.transfer.specs.Blocks.{blocks, block_length}
use Rattle.transfer.specs.Bitmap.{marked, none_missing, complete, Counted}

-- document 02, Q-2: where the number held is that of the ones and spare bits are 0, the comparison says what the walk says
abbrev pub Compares : Type 0
Compares = (i : Image) → Counted i → complete i ≡ none_missing i

-- a sample: what is worked out, and what it should be
pub record Sample : Type 0 where
  pub is : ℕ
  pub should : ℕ

-- document 01, "Sample values": size 2,500 by 1,000 is 3 blocks, the last of 500; blocks 0 and 2 held are `A0`; size 1 is one block
unfoldable pub samples : List Sample
samples =
    record { is = blocks 2500 1000; should = 3 }
    ∷ record { is = block_length 2500 1000 2; should = 500 }
    ∷ record { is = slice_index (marked (marked (replicate 128 0) 0) 2) 0; should = 0xA0 }
    ∷ record { is = blocks 1 1024; should = 1 }
    ∷ record { is = blocks 1 1; should = 1 }
    ∷ []

abbrev pub Samples : Type 0
Samples = map (λ (s : Sample). s.is) samples ≡ map (λ (s : Sample). s.should) samples
