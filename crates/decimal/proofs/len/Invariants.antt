-- `decimal::len` meets its contract: each turn takes a digit off those that are left.
use Prim.Native.Nat.{ℕ, ◌+◌, ◌<◌}
use mathlib.Core.Path.{◌≡◌}
use mathlib.Core.List.{[]}
use lib.ListN.{length}
use Rattle.decimal.specs.Decimal.{digits_before, decimal}
use Rattle.decimal.proofs.Laws.{bound}
use Rattle.decimal.proofs.len.Given as goal

abbrev pub invariant-loop-rest : goal.invariant-loop-rest
invariant-loop-rest l = (k : ℕ) × (l.rest < bound k) × (l.n + length (digits_before k l.rest []) ≡ length (decimal l.v) + 1) × (l.n + k ≡ 10)

abbrev pub decreases-loop-rest : goal.decreases-loop-rest
decreases-loop-rest l = l.rest
