-- `varint::write` meets its contract: what is left of the spelling, stored from where the loop stands, is all of it stored at the position.
use Prim.Native.Nat.{ℕ, ◌+◌, ◌≤◌, ◌<◌}
use mathlib.Core.Path.{◌≡◌}
use lib.ListN.{length}
use lib.Seq.{sets}
use Rattle.varint.specs.Varint.{spelling, varint}
use Rattle.varint.proofs.Laws.{bound}
use Rattle.varint.proofs.write.Given as goal

abbrev pub invariant-loop-rest : goal.invariant-loop-rest
invariant-loop-rest l = (k : ℕ) × (l.rest < bound k) × (length l.out ≡ length l.fn.out) × (sets l.fn.out l.at (varint l.v) ≡ sets l.out l.i (spelling k l.rest))
    × (l.i + length (spelling k l.rest) ≡ l.at + length (varint l.v)) × (l.at + length (varint l.v) ≤ length l.fn.out)

abbrev pub decreases-loop-rest : goal.decreases-loop-rest
decreases-loop-rest l = l.rest
