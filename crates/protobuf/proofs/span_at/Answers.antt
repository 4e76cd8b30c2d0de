-- `protobuf::span_at` meets its contract: the definition at what the call answers.
use mathlib.Core.Path.{sym, ap, ◌∙◌}
use Rattle.protobuf.specs.Field.{spanned}
use Rattle.protobuf.proofs.span_at.Goals as goal

pub returns-in_err-end : goal.returns-in_err-end
unfolding spanned
returns-in_err-end c = c.from_residual.ensures ∙ sym (ap (spanned _ _ _ _) (sym c.end_of.ensures ∙ c.in_err-end.was))

pub returns : goal.returns
unfolding spanned
returns c = sym (ap (spanned _ _ _ _) (sym c.end_of.ensures ∙ c.in_ok-end.was))
