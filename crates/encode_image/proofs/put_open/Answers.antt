-- `encode_image::put_open` meets its contract: the fields make the value, which fits its buffer, and the record holds it.
use mathlib.Core.Path.{sym}
use native.Mathlib.Nat.{le_of_eq}
use lib.Dec.{lit≤}
use lib.ListN.{take, replicate}
use lib.Seq.{length-take-le}
use Rattle.buffer.proofs.Puts.{done, next, Whole}
use Rattle.protobuf.specs.Write.{if_any}
use Rattle.tables.specs.Table.{written, write_by}
use Rattle.csmp.specs.Values.{moment_number}
use Rattle.encode_image.specs.Write.{open_value, open_record}
use Rattle.protobuf.proofs.SizeLaws.{number-most, bytes_most, number-if-most, bytes-if-most, take-most, nil, upto, whole}
use Rattle.std.proofs.Common.{rules}
use Rattle.encode_image.proofs.put_open.Goals as goal
use Rattle.encode_image.proofs.put_open.Goals.{After-put_given-n}

-- the puts left the value at the front of the buffer
value : (c : After-put_given-n)
    → Whole (replicate 512 0) (open_value c.args.image c.args.map_len c.args.time) c.put_given-n.new.out c.put_given-n.result
unfolding if_any written write_by
value c =
    let image = c.args.image in
    let name = image.name in
    let version = image.version in
    whole
    (next c.put_number-a.ensures
    (next c.put_bytes-b.ensures
    (next (rw c.front.ensures at c.put_bytes_if-c.ensures)
    (next (rw c.front-2.ensures at c.put_bytes_if-d.ensures)
    (next c.put_number-e.ensures
    (next c.put_number-f.ensures
    (next (rw c.front-3.ensures at c.put_bytes-g.ensures)
    (next (rw c.moment_number.ensures at c.put_given-n.ensures)
    done))))))))
    (upto (number-most 1 _)
    (upto (bytes_most 2 32 _ (le_of_eq (search rules)))
    (upto (bytes-if-most 3 128 name.given (take name.len name.bytes) (take-most name.len 128 name.bytes (search rules)))
    (upto (bytes-if-most 4 32 version.given (take version.len version.bytes) (take-most version.len 32 version.bytes (search rules)))
    (upto (number-most 5 _)
    (upto (number-most 6 _)
    (upto (bytes_most 7 128 _ (take-most c.args.map_len 128 image.bitmap (search rules)))
    (upto (number-if-most 10 (moment_number c.args.time))
    nil))))))))
    (lit≤ tt)

pub slice_bounds-value-end : goal.slice_bounds-value-end
slice_bounds-value-end c = (value (goal.at.slice_bounds-value-end c).After-put_given-n).room

pub slice_bounds-put-end : goal.slice_bounds-put-end
slice_bounds-put-end c = sym (length-take-le _ _ (value (goal.at.slice_bounds-put-end c).After-put_given-n).room)

pub returns : goal.returns
unfolding open_record
returns c = rw (value (goal.at.returns c).After-put_given-n).bytes at c.put.ensures
