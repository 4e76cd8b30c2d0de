-- What the values of messages share: numbers that are times, sizes, and bytes that are compared.
use Rattle.std.specs.Prelude.{ℕ, ◌-◌, List, Bool, true, take, drop, leb, None, Option, Some}
use Rattle.buffer.specs.Same.{same_bytes}
use Rattle.protobuf.specs.declared.Span.{Span}
use Rattle.schedule.specs.declared.Length.{Length}
use Rattle.schedule.specs.declared.Point.{Point}

-- a number that is a point, and one that is a length
unfoldable pub moment_of : Option ℕ → Option Point
moment_of (Some t) = Some (record { 0 = t })
moment_of None = None

unfoldable pub interval_of : Option ℕ → Option Length
interval_of (Some t) = Some (record { 0 = t })
interval_of None = None

-- a point and a length as numbers
unfoldable pub moment_number : Option Point → Option ℕ
moment_number (Some p) = Some p.0
moment_number None = None

unfoldable pub interval_number : Option Length → Option ℕ
interval_number (Some l) = Some l.0
interval_number None = None

-- "over its size" speaks of the value that counts
unfoldable pub at_most : ℕ → Option Span → Bool
at_most n (Some x) = leb (x.end - x.start) n
at_most n None = true

-- whether a field holds these bytes, with an answer for an absent field
unfoldable pub field_is : List ℕ → List ℕ → Bool → Option Span → Bool
field_is bytes s absent (Some x) = same_bytes bytes (take (x.end - x.start) (drop x.start s))
field_is bytes s absent None = absent
