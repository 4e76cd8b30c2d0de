-- `message::read_plain` meets its contract: a string is told by its bytes, another field is not read further.
use mathlib.Core.Path.{sym, ap, ◌∙◌}
use native.Mathlib.Omega.{arith}
use Rattle.message.specs.Read.{unpadded}
use Rattle.message.proofs.ReadLaws.{plain_other, plain-text}
use Rattle.message.proofs.read_plain.Goals as goal

pub returns-then-kind-lt-STRING : goal.returns-then-kind-lt-STRING
returns-then-kind-lt-STRING c = c.told.ensures ∙ sym (plain_other _ _ (omega arith))

pub returns : goal.returns
returns c = c.told-2.ensures ∙ ap unpadded c.is_utf8.ensures ∙ sym (plain-text _ _ c.if-kind-lt-STRING.false)
