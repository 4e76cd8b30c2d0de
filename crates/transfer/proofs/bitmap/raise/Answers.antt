-- `transfer::bitmap::raise` meets its contract: a bit that is not set adds its weight, and what it gives has eight bits.
use Rattle.std.proofs.Common.{sym, ◌∙◌, arith}
use Rattle.transfer.proofs.Bits.{raised-set, raised-weight, raised-small}
use Rattle.transfer.proofs.bitmap.raise.Goals as goal

pub returns-then-bit_at : goal.returns-then-bit_at
returns-then-bit_at c = sym (raised-set _ _ (sym c.bit_at.ensures ∙ c.if-bit_at.true))

pub overflow_add-result : goal.overflow_add-result
overflow_add-result c =
    let a = c.args in
    let p = c.requires in
    let w = c.weight.ensures in
    let r = raised-weight a.j a.b (sym c.bit_at.ensures ∙ c.if-bit_at.false) in
    let s = raised-small 8 a.j a.b (omega arith) (omega arith) in
    omega arith

pub returns : goal.returns
returns c = rw c.weight.ensures (sym (raised-weight _ _ (sym c.bit_at.ensures ∙ c.if-bit_at.false)))
