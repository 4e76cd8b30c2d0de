-- What `specs/Write.antt` states of captures.
use Rattle.capture.specs.Read.{entries_of}
use Rattle.capture.specs.Write.{items_of, ReadsBack}
use Rattle.capture.proofs.WriteLaws.{capture-back, written-items}

pub reads-back : ReadsBack
unfolding items_of entries_of
reads-back is h = (capture-back is h, rw (capture-back is h) (written-items is))
