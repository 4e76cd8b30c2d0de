-- `note::note_validity` meets its contract: part by part.
use Rattle.note.specs.Note.{validity_noted}
use Rattle.note.proofs.note_validity.Goals as goal

pub returns : goal.returns
unfolding validity_noted
returns c =
    λ h. rw (c.mark-next.ensures, h, c.either-expired.ensures, c.is_expired.ensures)
