-- `note::note_redirect` meets its contract: part by part.
use Rattle.note.specs.Note.{redirect_noted}
use Rattle.note.proofs.note_redirect.Goals as goal

pub returns : goal.returns
unfolding redirect_noted
returns c =
    λ h. rw (c.mark-next.ensures, h, c.either-redirected.ensures, c.is_followed.ensures, c.redirect-registration.ensures)
