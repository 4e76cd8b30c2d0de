-- `decode_report::add_field` meets its contract: the number and the wire type say whether it is an entry.
use mathlib.Core.Path.{sym, ◌∙◌}
use Rattle.decode_report.proofs.ListLaws.{field-other-number, field-other-wire, field-entry}
use Rattle.decode_report.proofs.add_field.Goals as goal

pub returns-then-f-ne-TLV_IDS : goal.returns-then-f-ne-TLV_IDS
returns-then-f-ne-TLV_IDS c = sym (field-other-number _ _ _ c.if-f-ne-TLV_IDS.true)

pub returns-then-f-ne2 : goal.returns-then-f-ne2
returns-then-f-ne2 c = sym (field-other-wire _ _ _ c.if-f-ne-TLV_IDS.false c.if-f-ne2.true)

pub returns : goal.returns
returns c = c.add_entry.ensures ∙ sym (field-entry _ _ _ c.if-f-ne-TLV_IDS.false c.if-f-ne2.false)
