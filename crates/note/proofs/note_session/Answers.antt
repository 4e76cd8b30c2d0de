-- `note::note_session` meets its contract: the session, and whether the value can be read.
use Rattle.note.proofs.Laws.{session-is}
use Rattle.note.proofs.note_session.Goals as goal

pub returns : goal.returns
returns c =
    λ h. session-is _ _ _ _ h c.mark-next.ensures c.with_session-assigned.ensures
