-- `waiting::keep` meets its contract: nothing is kept where no place is free, else one answer behind the others.
use Rattle.waiting.proofs.Laws.{kept-not, kept-one, bytes-not, bytes_one}
use Rattle.waiting.proofs.keep.Goals as goal

pub returns-then-n-ge4 : goal.returns-then-n-ge4
returns-then-n-ge4 c = (kept-not _ _ _ _ _ _ c.if-n-ge4.true, bytes-not _ _ _ _ c.if-n-ge4.true)

pub returns : goal.returns
returns c =
    let a = c.args in
    let h = c.if-n-ge4.false in (
      kept-one _ _ _ _ _ _ h,
      bytes_one a.waiting a.answers.now a.url.now a.held.now h _ _ _ _ c.slot_at.ensures c.held_at.ensures
          c.put.ensures.bytes c.put-2.ensures.bytes,
    )
