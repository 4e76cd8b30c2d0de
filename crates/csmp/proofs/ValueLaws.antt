-- Laws of values: sizes.
use Rattle.std.specs.Prelude.{Option}
use Prim.Native.Nat.{ℕ, ◌-◌, ◌<◌}
use mathlib.Core.Path.{◌≡◌}
use mathlib.Core.Bool.{true}
use native.Mathlib.Omega.{arith}
use borrow.Author.Tests.{le-leb}
use Rattle.csmp.specs.Values.{at_most}
use Rattle.protobuf.specs.Given.{spanning}
use Rattle.protobuf.specs.declared.Span.{Span}

-- bytes that end before they start are none
pub at-most-none : (n start stop : ℕ) (b : Option Span) → stop < start → b ≡ spanning start stop → at_most n b ≡ true
unfolding at_most
at-most-none n start stop b h e = rw e (le-leb (stop - start) n (omega arith))
