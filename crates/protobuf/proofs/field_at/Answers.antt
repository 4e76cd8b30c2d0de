-- `protobuf::field_at` meets its contract: a law of the definition for each answer.
use mathlib.Core.Path.{sym, ◌∙◌}
use Rattle.protobuf.proofs.FieldLaws.{field-untagged, field-large, field-zero, field-tagged}
use Rattle.protobuf.proofs.field_at.Goals as goal

pub returns-in_err-tag : goal.returns-in_err-tag
returns-in_err-tag c = c.from_residual.ensures ∙ sym (field-untagged _ _ (sym c.read.ensures ∙ c.in_err-tag.was))

pub returns-then-tag-ge4294967296 : goal.returns-then-tag-ge4294967296
returns-then-tag-ge4294967296 c = sym (field-large _ _ _ _ _ (sym c.read.ensures ∙ c.in_ok-tag.was) c.if-tag-ge4294967296.true)

pub returns-then-tag-lt8 : goal.returns-then-tag-lt8
returns-then-tag-lt8 c = sym (field-zero _ _ _ _ _ (sym c.read.ensures ∙ c.in_ok-tag.was) c.if-tag-ge4294967296.false c.if-tag-lt8.true)

pub returns : goal.returns
returns c = c.content_at.ensures ∙ sym (field-tagged _ _ _ _ _ (sym c.read.ensures ∙ c.in_ok-tag.was) c.if-tag-ge4294967296.false c.if-tag-lt8.false)
