-- `varint::put_delimited` meets its contract: what fits whole is appended in pieces.
use mathlib.Core.Path.{ap, ap₂, ◌∙◌}
use Prim.Native.Nat.{ℕ, ◌+◌}
use native.Mathlib.Omega.{arith}
use lib.ListN.{length}
use Rattle.buffer.proofs.Puts.{put-join, put_full}
use Rattle.buffer.proofs.Stretches.{tested}
use Rattle.varint.specs.Varint.{two, delimited}
use Rattle.varint.proofs.Laws.{varint-length, delimited-length}
use Rattle.varint.proofs.put_delimited.Goals as goal

pub overflow_add-n : goal.overflow_add-n
overflow_add-n c =
    let a = c.args in
    omega (arith, varint-length a.key, varint-length (length a.bytes.now), c.len.ensures, c.len-2.ensures)

pub overflow_add-n-2 : goal.overflow_add-n-2
overflow_add-n-2 c =
    let a = c.args in
    omega (arith, varint-length a.key, varint-length (length a.bytes.now), c.len.ensures, c.len-2.ensures, c.well_formed)

pub returns-then-has_room : goal.returns-then-has_room
unfolding delimited
returns-then-has_room c =
    let a = c.args in
    let n = ap (λ (k : ℕ). k + length a.bytes.now) (ap₂ ◌+◌ c.len.ensures c.len-2.ensures) in
    let room = tested _ _ _ _ (n ∙ delimited-length a.key a.bytes.now) c.has_room.ensures c.if-has_room.true in
    put-join a.out.now a.at (two a.key (length a.bytes.now)) a.bytes.now room c.put_two-mid.ensures c.put.ensures

pub returns : goal.returns
returns c =
    let a = c.args in
    let n = ap (λ (k : ℕ). k + length a.bytes.now) (ap₂ ◌+◌ c.len.ensures c.len-2.ensures) in
    put_full _ _ _ (tested _ _ _ _ (n ∙ delimited-length a.key a.bytes.now) c.has_room.ensures c.if-has_room.false)
