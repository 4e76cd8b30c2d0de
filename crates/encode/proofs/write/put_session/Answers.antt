-- `encode::write::put_session` meets its contract: the fields make the value, which fits its buffer, and the record holds it.
use Rattle.std.specs.Prelude.{Some}
use mathlib.Core.Path.{sym}
use lib.Dec.{lit≤}
use lib.ListN.{take, replicate}
use lib.Seq.{length-take-le}
use Rattle.buffer.proofs.Puts.{done, next, Whole}
use Rattle.protobuf.specs.Write.{if_any}
use Rattle.tables.specs.Table.{written, write_by}
use Rattle.csmp.specs.Tables
use Rattle.encode.specs.Write.{session_record}
use Rattle.protobuf.proofs.SizeLaws.{bytes_most, take-most, nil, upto, whole}
use Rattle.std.proofs.Common.{rules}
use Rattle.encode.proofs.write.put_session.Goals as goal
use Rattle.encode.proofs.write.put_session.Goals.{After-put_bytes-n}

-- the puts left the value at the front of the buffer
value : (c : After-put_bytes-n)
    → Whole (replicate 128 0)
    (write_by Tables.session (Some (take c.args.id.len c.args.id.bytes), tt))
    c.put_bytes-n.new.out c.put_bytes-n.result
unfolding if_any written write_by
value c =
    let id = c.args.id in
    whole
    (next (rw c.letters.ensures at c.put_bytes-n.ensures) done)
    (upto (bytes_most 1 64 _ (take-most id.len 64 id.bytes (search rules))) nil)
    (lit≤ tt)

pub slice_bounds-value-end : goal.slice_bounds-value-end
slice_bounds-value-end c = (value (goal.at.slice_bounds-value-end c).After-put_bytes-n).room

pub slice_bounds-put-end : goal.slice_bounds-put-end
slice_bounds-put-end c = sym (length-take-le _ _ (value (goal.at.slice_bounds-put-end c).After-put_bytes-n).room)

pub returns : goal.returns
unfolding session_record
returns c = rw (value (goal.at.returns c).After-put_bytes-n).bytes at c.put.ensures
