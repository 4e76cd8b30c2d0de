-- `encode::write::put_time` meets its contract: the fields make the value, which fits its buffer, and the record holds it.
use Rattle.std.specs.Prelude.{None, Some}
use mathlib.Core.Path.{sym}
use lib.Dec.{lit≤}
use lib.ListN.{replicate}
use lib.Seq.{length-take-le}
use Rattle.buffer.proofs.Puts.{done, next, Whole}
use Rattle.protobuf.specs.Write.{if_any}
use Rattle.tables.specs.Table.{written, write_by}
use Rattle.csmp.specs.Tables
use Rattle.encode.specs.Write.{time_record}
use Rattle.protobuf.proofs.SizeLaws.{number-most, nil, upto, whole}
use Rattle.encode.proofs.write.put_time.Goals as goal
use Rattle.encode.proofs.write.put_time.Goals.{After-put_number-n}

-- the puts left the value at the front of the buffer
value : (c : After-put_number-n)
    → Whole (replicate 32 0) (write_by Tables.current_time (Some c.args.time.0, (None, (None, tt)))) c.put_number-n.new.out c.put_number-n.result
unfolding if_any written write_by
value c = whole (next c.put_number-n.ensures done) (upto (number-most 1 _) nil) (lit≤ tt)

pub slice_bounds-value-end : goal.slice_bounds-value-end
slice_bounds-value-end c = (value (goal.at.slice_bounds-value-end c).After-put_number-n).room

pub slice_bounds-put-end : goal.slice_bounds-put-end
slice_bounds-put-end c = sym (length-take-le _ _ (value (goal.at.slice_bounds-put-end c).After-put_number-n).room)

pub returns : goal.returns
unfolding time_record
returns c = rw (value (goal.at.returns c).After-put_number-n).bytes at c.put.ensures
