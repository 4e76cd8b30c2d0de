-- `tlv::put` meets its contract: a record is bytes behind a key and their length.
use Rattle.tlv.proofs.put.Goals as goal

pub returns : goal.returns
returns c = c.put_delimited.ensures
