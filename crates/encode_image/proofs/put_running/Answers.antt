-- `encode_image::put_running` meets its contract: the fields make the value, which fits its buffer, and the record holds it.
use Rattle.std.specs.Prelude.{None, Some}
use mathlib.Core.Path.{sym}
use mathlib.Core.Bool.{true}
use native.Mathlib.Nat.{le_of_eq}
use lib.Dec.{lit≤}
use lib.ListN.{replicate}
use lib.Seq.{length-take-le}
use Rattle.buffer.proofs.Puts.{done, next, Whole}
use Rattle.protobuf.specs.Write.{if_any}
use Rattle.tables.specs.Table.{written, write_by}
use Rattle.csmp.specs.Values.{moment_number}
use Rattle.encode_image.specs.Write.{image_value, running_record}
use Rattle.protobuf.proofs.SizeLaws.{number-most, bytes_most, nil, upto, whole}
use Rattle.std.proofs.Common.{rules}
use Rattle.encode_image.proofs.put_running.Goals as goal
use Rattle.encode_image.proofs.put_running.Goals.{After-put_number-n}

-- the puts left the value at the front of the buffer
value : (c : After-put_number-n)
    → Whole (replicate 128 0)
    (image_value 0 c.args.hash None None None None None (Some true) None)
    c.put_number-n.new.out c.put_number-n.result
unfolding if_any written write_by moment_number
value c =
    whole
    (next c.put_number-a.ensures
    (next c.put_bytes-b.ensures
    (next c.put_number-n.ensures
    done)))
    (upto (number-most 1 _)
    (upto (bytes_most 2 32 _ (le_of_eq (search rules)))
    (upto (number-most 9 _)
    nil)))
    (lit≤ tt)

pub slice_bounds-value-end : goal.slice_bounds-value-end
slice_bounds-value-end c = (value (goal.at.slice_bounds-value-end c).After-put_number-n).room

pub slice_bounds-put-end : goal.slice_bounds-put-end
slice_bounds-put-end c = sym (length-take-le _ _ (value (goal.at.slice_bounds-put-end c).After-put_number-n).room)

pub returns : goal.returns
unfolding running_record
returns c = rw (value (goal.at.returns c).After-put_number-n).bytes at c.put.ensures
