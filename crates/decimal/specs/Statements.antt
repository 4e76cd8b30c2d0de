-- What is proved of decimal ids, beyond the functions' contracts.
use Rattle.std.specs.Prelude.{ℕ, ◌≡◌, List, Some}
use Rattle.decimal.specs.Decimal.{IsId, id_of, decimal}

-- an id that is written reads back, and a text that spells an id comes out unchanged
pub record RoundTrip : Type 0 where
  pub back : (v : ℕ) → IsId v → id_of (decimal v) ≡ Some v
  pub unchanged : (s : List ℕ) (v : ℕ) → id_of s ≡ Some v → decimal v ≡ s
