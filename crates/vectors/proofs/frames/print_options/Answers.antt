-- An option ends behind its start.
use Rattle.std.proofs.Common.{arith}
use Rattle.coap.proofs.Laws.{option_inside}
use Rattle.vectors.proofs.frames.print_options.Goals as goal

pub loop-o-smaller : goal.loop-o-smaller
loop-o-smaller g c = omega (arith, option_inside c.args.s.now c.loop-o.at c.loop-o.before c.in-Some-Option.o (cc))
