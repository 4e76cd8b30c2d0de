-- `decimal::put` meets its contract: it appends whole or not at all.
use mathlib.Core.Path.{ap}
use Prim.Native.Nat.{ℕ, ◌+◌}
use native.Mathlib.Omega.{arith}
use Rattle.buffer.proofs.Puts.{put_full}
use Rattle.buffer.proofs.Stretches.{room, tested}
use Rattle.decimal.proofs.put.Goals as goal

pub overflow_add-at : goal.overflow_add-at
overflow_add-at c = omega (arith, room _ _ _ c.has_room.ensures c.if-has_room.true)

pub write-requires : goal.write-requires
write-requires c = let e = c.len-n.ensures in
    record { v_value = tested _ _ _ _ e c.has_room.ensures c.if-has_room.true; end_value = ap (λ (k : ℕ). c.args.at + k) e }

pub returns : goal.returns
returns c = put_full _ _ _ (tested _ _ _ _ c.len-n.ensures c.has_room.ensures c.if-has_room.false)
