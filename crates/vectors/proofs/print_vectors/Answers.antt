-- A record ends behind its start.
use Rattle.std.proofs.Common.{arith, sym}
use Rattle.tlv.proofs.Laws.{record-inside}
use Rattle.vectors.proofs.print_vectors.Goals as goal

pub loop-at-smaller : goal.loop-at-smaller
loop-at-smaller g c = omega (arith, record-inside c.args.s.now c.loop-at.at c.in-Some.r (sym c.in-Some.ensures))
