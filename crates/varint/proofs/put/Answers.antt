-- `varint::put` meets its contract: it appends whole or not at all.
use mathlib.Core.Path.{sym, ◌∙◌, ap}
use lib.ListN.{length}
use Rattle.buffer.specs.Stretch.{fits}
use Rattle.buffer.proofs.Puts.{put_full}
use Rattle.varint.proofs.put.Goals as goal

pub write-requires : goal.write-requires
write-requires c =
    let a = c.args in
    ap (fits (length a.out.now) a.at) (sym c.len.ensures) ∙ sym c.has_room.ensures ∙ c.if-has_room.true

pub returns : goal.returns
returns c =
    let a = c.args in
    put_full _ _ _ (ap (fits (length a.out.now) a.at) (sym c.len.ensures) ∙ sym c.has_room.ensures ∙ c.if-has_room.false)
