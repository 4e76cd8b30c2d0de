-- `transfer::bitmap::is_held` meets its contract: the bit of a number in range.
use Rattle.std.proofs.Common.{sym, ◌∙◌}
use Rattle.transfer.proofs.Marks.{held_below, held-beyond}
use Rattle.transfer.proofs.bitmap.is_held.Goals as goal

pub returns-then-n-lt1024 : goal.returns-then-n-lt1024
returns-then-n-lt1024 c = c.bit_at.ensures ∙ sym (held_below _ _ c.if-n-lt1024.true)

pub returns : goal.returns
returns c = sym (held-beyond _ _ c.if-n-lt1024.false)
