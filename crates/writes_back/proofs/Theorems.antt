-- What `specs/Write.antt` states of captures.
use Rattle.capture.specs.Read.{entries_of}
use Rattle.capture.specs.Write.{items_of}
use Rattle.writes_back.specs.Write.{WritesBack}
use Rattle.writes_back.proofs.FileLaws.{capture-framed, written-whole}

pub writes-back : WritesBack
unfolding items_of entries_of
writes-back s b index count e = rw e (written-whole s b (capture-framed s index count e))
