-- What is proved of varints, beyond the functions' contracts.
use Rattle.std.specs.Prelude.{ℕ, ◌+◌, ◌-◌, ◌^◌, ◌≤◌, ◌<◌, ◌≡◌, List, [], ◌∷◌, ◌++◌, map, Bool, true, false, length, replicate, None, Option}
use Rattle.varint.specs.Varint.{varint_at, varint, is_longer, stands}
use Rattle.varint.specs.declared.Varint.{Varint}

-- what is written reads back as the same number, wherever it stands, and is not padded
pub record RoundTrip : Type 0 where
  pub back : (front : List ℕ) (v : ℕ) (rest : List ℕ) → v < 2 ^ 64
      → varint_at (front ++ (varint v ++ rest)) (length front) ≡ stands v (length front + length (varint v)) false

-- document 02, Q-8: a number that is read is said to be padded exactly where its spelling is longer than the one that is written, and none is shorter
pub record PaddedIsLonger : Type 0 where
  pub longer : (s : List ℕ) (at v next : ℕ) (padded : Bool) → varint_at s at ≡ stands v next padded → padded ≡ is_longer at v next
  pub least : (s : List ℕ) (at v next : ℕ) (padded : Bool) → varint_at s at ≡ stands v next padded → at + length (varint v) ≤ next

-- a sample: bytes, and what is read at their start
pub record Sample : Type 0 where
  pub bytes : List ℕ
  pub means : Option Varint

-- document 01, "Sample values": 300, `81 00`, nine `FF` with `01` and with `02`; document 02, Q-8: 0 in one byte and in two, 128, 2^32, 1 and 2^63 - 1 in ten
abbrev pub samples : List Sample
samples =
    record { bytes = 0xAC ∷ 0x02 ∷ []; means = stands 300 2 false }
    ∷ record { bytes = 0x81 ∷ 0x00 ∷ []; means = stands 1 2 true }
    ∷ record { bytes = replicate 9 0xFF ++ (0x01 ∷ []); means = stands (2 ^ 64 - 1) 10 false }
    ∷ record { bytes = replicate 9 0xFF ++ (0x02 ∷ []); means = None }
    ∷ record { bytes = 0x00 ∷ []; means = stands 0 1 false }
    ∷ record { bytes = 0x80 ∷ 0x00 ∷ []; means = stands 0 2 true }
    ∷ record { bytes = 0x80 ∷ 0x01 ∷ []; means = stands 128 2 false }
    ∷ record { bytes = 0x80 ∷ 0x80 ∷ 0x80 ∷ 0x80 ∷ 0x10 ∷ []; means = stands (2 ^ 32) 5 false }
    ∷ record { bytes = (0x81 ∷ []) ++ (replicate 8 0x80 ++ (0x00 ∷ [])); means = stands 1 10 true }
    ∷ record { bytes = replicate 9 0xFF ++ (0x00 ∷ []); means = stands (2 ^ 63 - 1) 10 true }
    ∷ []

abbrev pub SamplesRead : Type 0
SamplesRead = map (λ (x : Sample). varint_at x.bytes 0) samples ≡ map (λ (x : Sample). x.means) samples
