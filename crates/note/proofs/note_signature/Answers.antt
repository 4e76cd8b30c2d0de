-- `note::note_signature` meets its contract: part by part.
use Rattle.note.specs.Note.{signature_noted}
use Rattle.note.proofs.note_signature.Goals as goal

pub returns : goal.returns
unfolding signature_noted
returns c =
    λ v h. rw (c.mark-next.ensures, h)
