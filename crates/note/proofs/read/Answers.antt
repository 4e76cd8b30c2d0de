-- `note::read` meets its contract: by the record's type.
use mathlib.Core.Path.{sym, ◌∙◌}
use Rattle.note.proofs.Laws.{reads-6, reads-7, reads-13, reads-55, reads-76, reads-77, reads_other}
use native.Mathlib.Omega.{arith}
use Rattle.note.proofs.read.Goals as goal

pub returns-in-6 : goal.returns-in-6
returns-in-6 c = rw c.read_redirect.ensures (sym (reads-6 _ _ c.in-6.is))

pub returns-in-7 : goal.returns-in-7
returns-in-7 c = rw c.read_session.ensures (sym (reads-7 _ _ c.in-7.is))

pub returns-in-13 : goal.returns-in-13
returns-in-13 c = rw c.read_report.ensures (sym (reads-13 _ _ c.in-13.is))

pub returns-in-55 : goal.returns-in-55
returns-in-55 c = rw c.read_group.ensures (sym (reads-55 _ _ c.in-55.is))

pub returns-in-76 : goal.returns-in-76
returns-in-76 c = rw c.read_validity.ensures (sym (reads-76 _ _ c.in-76.is))

pub returns-in-77 : goal.returns-in-77
returns-in-77 c = c.read_signature.ensures ∙ sym (reads-77 _ _ c.in-77.is)

pub returns-in_default : goal.returns-in_default
returns-in_default c = c.empty.ensures ∙ sym (reads_other _ _ (λ h. omega arith) (λ h. omega arith) (λ h. omega arith) (λ h. omega arith) (λ h. omega arith) (λ h. omega arith))
