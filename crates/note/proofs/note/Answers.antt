-- `note::note` meets its contract: by the record's type.
use mathlib.Core.Path.{sym, ◌∙◌}
use Rattle.note.proofs.Laws.{reads-6, reads-7, reads-13, reads-55, reads-76, reads-77, readable-as, noted-6, noted-7, noted-13, noted-55, noted-76, noted-77, noted_other}
use native.Mathlib.Omega.{arith}
use Rattle.note.proofs.note.Goals as goal

pub returns-in-6 : goal.returns-in-6
returns-in-6 c =
    λ h. c.note_redirect.ensures (readable-as h (reads-6 _ _ c.in-6.is)) ∙ sym (noted-6 _ _ _ _ _ c.in-6.is)

pub returns-in-7 : goal.returns-in-7
returns-in-7 c =
    λ h. c.note_session.ensures (readable-as h (reads-7 _ _ c.in-7.is)) ∙ sym (noted-7 _ _ _ _ _ c.in-7.is)

pub returns-in-13 : goal.returns-in-13
returns-in-13 c =
    λ h. c.note_report.ensures (readable-as h (reads-13 _ _ c.in-13.is)) ∙ sym (noted-13 _ _ _ _ _ c.in-13.is)

pub returns-in-55 : goal.returns-in-55
returns-in-55 c =
    λ h. c.note_group.ensures (readable-as h (reads-55 _ _ c.in-55.is)) ∙ sym (noted-55 _ _ _ _ _ c.in-55.is)

pub returns-in-76 : goal.returns-in-76
returns-in-76 c =
    λ h. c.note_validity.ensures (readable-as h (reads-76 _ _ c.in-76.is)) ∙ sym (noted-76 _ _ _ _ _ c.in-76.is)

pub returns-in-77 : goal.returns-in-77
returns-in-77 c =
    λ h. c.note_signature.ensures _ (readable-as h (reads-77 _ _ c.in-77.is)) ∙ sym (noted-77 _ _ _ _ _ c.in-77.is)

pub returns-in_default : goal.returns-in_default
returns-in_default c =
    λ h. sym (noted_other _ _ _ _ _ (λ h. omega arith) (λ h. omega arith) (λ h. omega arith) (λ h. omega arith) (λ h. omega arith) (λ h. omega arith))
