-- `encode_image::put_response` meets its contract: the fields make the value, which fits its buffer, and the record holds it.
use Rattle.std.specs.Prelude.{Some}
use mathlib.Core.Path.{sym}
use native.Mathlib.Nat.{le_of_eq}
use lib.Dec.{lit≤}
use lib.ListN.{replicate}
use lib.Seq.{length-take-le}
use Rattle.buffer.proofs.Puts.{done, next, Whole}
use Rattle.protobuf.specs.Given.{if_given}
use Rattle.protobuf.specs.Write.{if_any, bytes_field}
use Rattle.tables.specs.Table.{written, write_by}
use Rattle.csmp.specs.Tables
use Rattle.csmp.specs.Values.{moment_number}
use Rattle.encode_image.specs.Write.{response_record}
use Rattle.protobuf.proofs.SizeLaws.{number-most, number-if-most, bytes-if-most, nil, upto, whole}
use Rattle.std.proofs.Common.{rules}
use Rattle.encode_image.proofs.put_response.Goals as goal
use Rattle.encode_image.proofs.put_response.Goals.{After-put_given-n}

-- the puts left the value at the front of the buffer
value : (c : After-put_given-n)
    → Whole (replicate 128 0)
    (write_by Tables.load_response
    (if_given c.args.hash.given c.args.hash.bytes, (Some c.args.answer, (moment_number c.args.time, tt))))
    c.put_given-n.new.out c.put_given-n.result
unfolding if_any written write_by
value c =
    let h = c.args.hash in
    whole
    (next {p = if_any (bytes_field 1) (if_given h.given h.bytes)} c.put_bytes_if-a.ensures
    (next c.put_number-b.ensures
    (next (rw c.moment_number.ensures at c.put_given-n.ensures)
    done)))
    (upto (bytes-if-most 1 32 h.given h.bytes (le_of_eq (search rules)))
    (upto (number-most 2 _)
    (upto (number-if-most 3 (moment_number c.args.time))
    nil)))
    (lit≤ tt)

pub slice_bounds-value-end : goal.slice_bounds-value-end
slice_bounds-value-end c = (value (goal.at.slice_bounds-value-end c).After-put_given-n).room

pub slice_bounds-put-end : goal.slice_bounds-put-end
slice_bounds-put-end c = sym (length-take-le _ _ (value (goal.at.slice_bounds-put-end c).After-put_given-n).room)

pub returns : goal.returns
unfolding response_record
returns c = rw (value (goal.at.returns c).After-put_given-n).bytes at c.put.ensures
