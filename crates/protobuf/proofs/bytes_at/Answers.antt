-- `protobuf::bytes_at` meets its contract: the definition at what the call answers.
use mathlib.Core.Path.{sym, ap, ◌∙◌}
use Rattle.protobuf.specs.Field.{held}
use Rattle.protobuf.proofs.bytes_at.Goals as goal

pub returns-in_err-held : goal.returns-in_err-held
unfolding held
returns-in_err-held c = c.from_residual.ensures ∙ sym (ap (held _ _) (sym c.read_delimited.ensures ∙ c.in_err-held.was))

pub returns : goal.returns
unfolding held
returns c = rw c.either.ensures (sym (ap (held _ _) (sym c.read_delimited.ensures ∙ c.in_ok-held.was)))
