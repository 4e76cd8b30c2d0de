-- `buffer::put` meets its contract: where the bytes fit, they are appended whole.
use mathlib.Core.Path.{refl, sym, ◌∙◌}
use native.Mathlib.Omega.{arith}
use Rattle.buffer.proofs.Puts.{put-fits, sets-tail}
use Rattle.buffer.proofs.Stretches.{room}
use Rattle.buffer.proofs.put.Goals as goal

pub returns-then-has_room : goal.returns-then-has_room
returns-then-has_room c = let a = c.args in
    let h = room _ _ _ c.if-has_room.ensures refl in
    let e = sets-tail a.bytes.now a.out.now c.copy.new.dst a.at (omega arith) c.copy.ensures in
    let p = put-fits a.out.now a.at a.bytes.now (sym c.if-has_room.ensures) in
    record { bytes = e ∙ p.bytes; position = p.position }
