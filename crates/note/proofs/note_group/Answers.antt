-- `note::note_group` meets its contract: the group, and whether the value can be read.
use Rattle.note.proofs.Laws.{group-is}
use Rattle.note.proofs.note_group.Goals as goal

pub returns : goal.returns
returns c =
    λ h. group-is _ _ _ _ _ c.read_group-m.ensures h c.with_group.ensures c.mark.ensures
