-- `encode::write::put_report` meets its contract: the fields make the value, which fits its buffer, and the record holds it.
use Rattle.std.specs.Prelude.{None}
use mathlib.Core.Path.{sym}
use mathlib.Core.List.{[], map}
use lib.Dec.{lit≤}
use lib.ListN.{replicate}
use lib.Seq.{length-take-le}
use Rattle.buffer.proofs.Puts.{done, next, Whole}
use Rattle.decimal.specs.Decimal.{decimal}
use Rattle.decimal.specs.Ids.{held}
use Rattle.protobuf.specs.Write.{if_any, each}
use Rattle.tables.specs.Table.{written, write_by}
use Rattle.csmp.specs.Tables
use Rattle.csmp.specs.Values.{interval_number}
use Rattle.encode.specs.Write.{report_record}
use Rattle.encode.proofs.WriteLaws.{texts-each, list-most, room-texts}
use Rattle.protobuf.proofs.SizeLaws.{number-if-most, nil, upto, whole}
use Rattle.std.proofs.Common.{rules}
use Rattle.encode.proofs.write.put_report.Goals as goal
use Rattle.encode.proofs.write.put_report.Goals.{After-put_texts-n}

-- the puts left the value at the front of the buffer
value : (c : After-put_texts-n)
    → Whole (replicate 1024 0)
    (write_by Tables.report_subscribe (interval_number c.args.interval, (map decimal (held c.args.ids), (None, ([], tt)))))
    c.put_texts-n.new.out c.put_texts-n.result
unfolding written write_by if_any each
value c =
    let ids = c.args.ids in
    whole
    (next (rw c.interval_number.ensures at c.put_given-a.ensures)
    (next (rw (c.front_ids.ensures, texts-each) at c.put_texts-n.ensures)
    done))
    (upto (number-if-most 1 (interval_number c.args.interval))
    (upto (list-most 2 32 ids.count ids.list (search rules))
    nil))
    (lit≤ tt)

pub put_texts-n-requires : goal.put_texts-n-requires
put_texts-n-requires c =
    let ids = c.args.ids in
    room-texts 2 32 ids.count _ ids.list
    (next c.put_given-a.ensures done)
    (upto (number-if-most 1 _) nil)
    c.front_ids.ensures
    (search rules)
    (lit≤ tt)

pub slice_bounds-value-end : goal.slice_bounds-value-end
slice_bounds-value-end c = (value (goal.at.slice_bounds-value-end c).After-put_texts-n).room

pub slice_bounds-put-end : goal.slice_bounds-put-end
slice_bounds-put-end c = sym (length-take-le _ _ (value (goal.at.slice_bounds-put-end c).After-put_texts-n).room)

pub returns : goal.returns
unfolding report_record
returns c = rw (value (goal.at.returns c).After-put_texts-n).bytes at c.put.ensures
