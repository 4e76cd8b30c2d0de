-- The bytes up to a place are appended.
use Rattle.lister.proofs.Laws.{hex-start, hex-next, hex-end}
use Rattle.lister.proofs.text.put_hex.Goals as goal

pub loop-b-init : goal.loop-b-init
loop-b-init c = hex-start _ _ _ c.requires

pub loop-b-preserved : goal.loop-b-preserved
loop-b-preserved c = hex-next _ _ c.loop-b-test.true c.loop-b.invariant c.put_byte-end.ensures

pub returns : goal.returns
returns c = hex-end _ _ c.loop-b-test.false c.loop-b.invariant
