-- `decimal::digits` meets its contract: the digits read so far and the text behind them say what the whole text says.
use Prim.Native.Nat.{◌^◌, ◌<◌}
use mathlib.Core.Path.{◌≡◌}
use lib.ListN.{drop}
use Rattle.decimal.specs.Decimal.{digits_of}
use Rattle.decimal.proofs.Laws.{behind}
use Rattle.decimal.proofs.digits.Given as goal

abbrev pub invariant-loop-b : goal.invariant-loop-b
invariant-loop-b l = (digits_of l.s ≡ behind l.value (drop l.b-index l.s)) × (l.value < 2 ^ 32)
