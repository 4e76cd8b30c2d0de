-- `varint::put_two` meets its contract: what fits whole is appended in pieces.
use mathlib.Core.Path.{ap₂, ◌∙◌}
use Prim.Native.Nat.{◌+◌}
use native.Mathlib.Omega.{arith}
use Rattle.buffer.proofs.Puts.{put-join, put_full}
use Rattle.buffer.proofs.Stretches.{tested}
use Rattle.varint.specs.Varint.{two, varint}
use Rattle.varint.proofs.Laws.{varint-length, two-length}
use Rattle.varint.proofs.put_two.Goals as goal

pub overflow_add-n : goal.overflow_add-n
overflow_add-n c =
    let a = c.args in
    omega (arith, varint-length a.a, varint-length a.b, c.len.ensures, c.len-2.ensures)

pub returns-then-has_room : goal.returns-then-has_room
unfolding two
returns-then-has_room c =
    let a = c.args in
    let room = tested _ _ _ _ (ap₂ ◌+◌ c.len.ensures c.len-2.ensures ∙ two-length a.a a.b) c.has_room.ensures c.if-has_room.true in
    put-join a.out.now a.at (varint a.a) (varint a.b) room c.put-mid.ensures c.put.ensures

pub returns : goal.returns
returns c =
    let a = c.args in
    put_full _ _ _ (tested _ _ _ _ (ap₂ ◌+◌ c.len.ensures c.len-2.ensures ∙ two-length a.a a.b) c.has_room.ensures c.if-has_room.false)
