-- `transfer::bitmap::hold` meets its contract: the byte of a number in range is raised.
use Rattle.std.proofs.Common.{sym}
use Rattle.transfer.proofs.Marks.{marked-below, marked-beyond}
use Rattle.transfer.proofs.bitmap.hold.Goals as goal

pub returns-then-n-lt1024 : goal.returns-then-n-lt1024
returns-then-n-lt1024 c = rw c.raise.ensures (sym (marked-below _ _ c.if-n-lt1024.true))

pub returns-else-n-lt1024 : goal.returns-else-n-lt1024
returns-else-n-lt1024 c = sym (marked-beyond _ _ c.if-n-lt1024.false)
