-- `csmp::values::field_is` meets its contract: the definition at either case.
use mathlib.Core.Path.{sym, ap, ◌∙◌}
use Rattle.buffer.specs.Same.{same_bytes}
use Rattle.csmp.specs.Values.{field_is}
use Rattle.csmp.proofs.values.field_is.Goals as goal

pub returns-in_default : goal.returns-in_default
unfolding field_is
returns-in_default c = sym (ap (field_is _ _ _) c.in_default.is)

pub returns : goal.returns
unfolding field_is
returns c = c.same.ensures ∙ ap (same_bytes _) c.part.ensures ∙ sym (ap (field_is _ _ _) c.in-Some.is)
