-- `copy::copy_if` meets its contract: nothing, or the bytes.
use Rattle.copy.proofs.Laws.{copied-not, copied}
use Rattle.copy.proofs.copy_if.Goals as goal

pub returns-then-not-wanted : goal.returns-then-not-wanted
returns-then-not-wanted c = copied-not c.args.wanted c.args.bytes.now _ _ c.requires c.if-not-wanted.true

pub returns : goal.returns
returns c = copied c.args.wanted c.if-not-wanted.false c.put.ensures
