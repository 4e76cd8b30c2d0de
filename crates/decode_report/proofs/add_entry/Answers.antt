-- `decode_report::add_entry` meets its contract: the definition at what `decimal::read` answers.
use mathlib.Core.Path.{sym, ap, ◌∙◌}
use Rattle.decode_report.specs.Report.{with_id, with_entry}
use Rattle.decode_report.proofs.add_entry.Goals as goal

pub returns-in_default : goal.returns-in_default
unfolding with_entry with_id
returns-in_default c = sym (ap (with_id _) (sym c.read.ensures ∙ c.in_default.is))

pub returns : goal.returns
unfolding with_entry with_id
returns c = c.push.ensures ∙ sym (ap (with_id _) (sym c.read.ensures ∙ c.in-Some.is))
