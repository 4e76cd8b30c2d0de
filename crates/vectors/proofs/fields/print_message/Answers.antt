-- A field ends behind its start.
use Rattle.std.proofs.Common.{arith, sym}
use Rattle.protobuf.proofs.FieldLaws.{field-within}
use Rattle.vectors.proofs.fields.print_message.Goals as goal

pub loop-at-smaller : goal.loop-at-smaller
loop-at-smaller g c = omega (arith, field-within c.args.s.now c.loop-at.at c.in-Some.f (sym c.in-Some.ensures))
