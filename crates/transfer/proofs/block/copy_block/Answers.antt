-- `transfer::block::copy_block` meets its contract: stores past the end change nothing.
use Rattle.std.proofs.Common.{sym, arith}
use Rattle.buffer.proofs.Puts.{sets-out, sets-tail}
use Rattle.transfer.proofs.block.copy_block.Goals as goal

pub returns-then-start-flash : goal.returns-then-start-flash
returns-then-start-flash c =
    let a = c.args in
    sets-tail a.bytes.now a.flash.now c.copy.new.dst a.start c.if-start-flash.true c.copy.ensures

pub returns-else-start-flash : goal.returns-else-start-flash
returns-else-start-flash c =
    let a = c.args in
    sym (sets-out a.bytes.now a.flash.now a.start (omega arith))
