-- What is there or not, as a value: document 01, "Records and fields", presence.
use Rattle.std.specs.Prelude.{ℕ, ◌-◌, List, Bool, take, drop, None, Option, Some}
use Rattle.buffer.specs.Pick.{pick}
use Rattle.protobuf.specs.declared.Span.{Span}

abbrev pub if_given : {A : Type 0} → Bool → A → Option A
if_given b a = pick b (Some a) None

-- what counts of a row, as a value that may be missing
-- bytes from a start up to an end
abbrev pub spanning : ℕ → ℕ → Option Span
spanning start end = Some (record { start = start; end = end })

abbrev pub bytes_given : List ℕ → Option Span → Option (List ℕ)
bytes_given s (Some x) = Some (take (x.end - x.start) (drop x.start s))
bytes_given s None = None
