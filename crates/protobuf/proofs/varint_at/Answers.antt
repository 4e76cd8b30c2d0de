-- `protobuf::varint_at` meets its contract: the definition at what the call answers.
use mathlib.Core.Path.{sym, ap, ◌∙◌}
use Rattle.protobuf.specs.Field.{numbered}
use Rattle.protobuf.proofs.varint_at.Goals as goal

pub returns-in_err-held : goal.returns-in_err-held
unfolding numbered
returns-in_err-held c = c.from_residual.ensures ∙ sym (ap (numbered _ _) (sym c.read.ensures ∙ c.in_err-held.was))

pub returns : goal.returns
unfolding numbered
returns c = rw c.either.ensures (sym (ap (numbered _ _) (sym c.read.ensures ∙ c.in_ok-held.was)))
