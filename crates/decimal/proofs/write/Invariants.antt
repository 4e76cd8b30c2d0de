-- `decimal::write` meets its contract: the digits written so far stand before the end, and those that are left belong before them.
use Prim.Native.Nat.{ℕ, ◌+◌, ◌≤◌, ◌<◌}
use mathlib.Core.Path.{◌≡◌}
use mathlib.Core.List.{List}
use lib.ListN.{length}
use lib.Seq.{sets}
use Rattle.decimal.specs.Decimal.{digits_before, decimal}
use Rattle.decimal.proofs.Laws.{bound}
use Rattle.decimal.proofs.write.Given as goal

abbrev pub invariant-loop-rest : goal.invariant-loop-rest
invariant-loop-rest l = (k : ℕ) × (known : List ℕ) × (l.rest < bound k) × (l.out ≡ sets l.fn.out (l.i + 1) known) × (digits_before k l.rest known ≡ decimal l.v)
    × (l.i + 1 + length known ≡ l.at + length (decimal l.v)) × (l.at + length (decimal l.v) ≤ length l.fn.out)

abbrev pub decreases-loop-rest : goal.decreases-loop-rest
decreases-loop-rest l = l.rest
