-- `encode::write::put_index` meets its contract: the fields make the value, which fits its buffer, and the record holds it.
use mathlib.Core.Path.{sym}
use mathlib.Core.List.{map}
use lib.Dec.{lit≤}
use lib.ListN.{take, replicate}
use lib.Seq.{length-take-le}
use Rattle.buffer.proofs.Puts.{done, next, Whole}
use Rattle.decimal.specs.Decimal.{decimal}
use Rattle.tables.specs.Table.{written, write_by}
use Rattle.csmp.specs.Tables
use Rattle.encode.specs.Write.{index_record}
use Rattle.encode.proofs.WriteLaws.{texts-each, list-most, room-texts}
use Rattle.protobuf.proofs.SizeLaws.{nil, upto, whole}
use Rattle.std.proofs.Common.{rules}
use Rattle.encode.proofs.write.put_index.Goals as goal
use Rattle.encode.proofs.write.put_index.Goals.{After-put_texts-n}

-- the puts left the value at the front of the buffer
value : (c : After-put_texts-n)
    → Whole (replicate 2048 0)
    (write_by Tables.tlv_index (map decimal (take c.args.index.count c.args.index.list), tt))
    c.put_texts-n.new.out c.put_texts-n.result
unfolding written write_by
value c =
    let i = c.args.index in
    whole
    (next (rw (c.front_ids.ensures, texts-each) at c.put_texts-n.ensures) done)
    (upto (list-most 1 68 i.count i.list (search rules)) nil)
    (lit≤ tt)

pub put_texts-n-requires : goal.put_texts-n-requires
put_texts-n-requires c =
    let i = c.args.index in
    room-texts 1 68 i.count _ i.list (done {out = replicate 2048 0}) nil c.front_ids.ensures (search rules) (lit≤ tt)

pub slice_bounds-value-end : goal.slice_bounds-value-end
slice_bounds-value-end c = (value (goal.at.slice_bounds-value-end c).After-put_texts-n).room

pub slice_bounds-put-end : goal.slice_bounds-put-end
slice_bounds-put-end c = sym (length-take-le _ _ (value (goal.at.slice_bounds-put-end c).After-put_texts-n).room)

pub returns : goal.returns
unfolding index_record
returns c = rw (value (goal.at.returns c).After-put_texts-n).bytes at c.put.ensures
