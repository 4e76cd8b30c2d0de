-- A number and where the next byte is, and where bytes behind their length stand, as they were told before document 02, Q-8; and that they stand.
use Rattle.std.specs.Prelude.{ℕ, zero, suc, ◌+◌, ◌*◌, ◌%◌, ◌≡◌, List, [], ◌∷◌, length, drop, ltb, None, Option, Some}
use Rattle.buffer.specs.Pick.{pick}
use Rattle.buffer.specs.Stretch.{stretch}
use Rattle.varint.specs.Varint.{varint_at, delimited_at}
use Rattle.varint.specs.declared.Delimited.{Delimited}
use Rattle.varint.specs.declared.Varint.{Varint}

unfoldable pub more_before : ℕ → Option (ℕ × ℕ) → Option (ℕ × ℕ)
more_before b (Some x) = Some (b % 128 + 128 * x.0, x.1)
more_before b None = None

unfoldable pub spelt_before : ℕ → List ℕ → ℕ → Option (ℕ × ℕ)
spelt_before k [] at = None
spelt_before zero (b ∷ s) at = pick (ltb b 2) (Some (b, at + 1)) None
spelt_before (suc k) (b ∷ s) at = pick (ltb b 128) (Some (b, at + 1)) (more_before b (spelt_before k s (at + 1)))

unfoldable pub number_before : List ℕ → ℕ → Option (ℕ × ℕ)
number_before s at = spelt_before 9 (drop at s) at

unfoldable pub stretch_before : ℕ → Option ℕ → Option (ℕ × ℕ)
stretch_before start (Some end) = Some (start, end)
stretch_before start None = None

unfoldable pub length_before : List ℕ → Option (ℕ × ℕ) → Option (ℕ × ℕ)
length_before s (Some x) = stretch_before x.1 (stretch (length s) x.1 x.0)
length_before s None = None

unfoldable pub delimited_before : List ℕ → ℕ → Option (ℕ × ℕ)
delimited_before s at = length_before s (number_before s at)

abbrev pub number_in : Option Varint → Option (ℕ × ℕ)
number_in (Some x) = Some (x.value, x.next)
number_in None = None

abbrev pub delimited_in : Option Delimited → Option (ℕ × ℕ)
delimited_in (Some x) = Some (x.start, x.end)
delimited_in None = None

-- what is told now is the same, but for `padded`
pub record NumbersStand : Type 0 where
  pub numbers : (s : List ℕ) (at : ℕ) → number_in (varint_at s at) ≡ number_before s at
  pub lengths : (s : List ℕ) (at : ℕ) → delimited_in (delimited_at s at) ≡ delimited_before s at
