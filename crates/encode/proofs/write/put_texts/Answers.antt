-- What is left to show, goal by goal.
use mathlib.Core.Path.{refl}
use Rattle.encode.proofs.WriteLaws.{left-start, left-more, left_end, texts-end, texts-more}
use Rattle.encode.proofs.write.put_texts.Goals as goal

pub loop-i-init : goal.loop-i-init
loop-i-init c = left-start _ _ _ c.requires

pub loop-i-preserved : goal.loop-i-preserved
loop-i-preserved c =
    let p = c in
    let t = p in
    let l = t.loop-i in
    let a = t.args in
    let e = texts-more a.number a.ids.now l.i _ _ t.loop-i-test.true refl p.len.ensures in
    left-more _ _ _ _ (rw e at l.invariant) p.put_head-mid.ensures c.put-end.ensures

pub shape_of-out : goal.shape_of-out
shape_of-out c = c.loop-i.invariant.kept

pub returns : goal.returns
returns c = left_end (rw (texts-end _ _ _ c.loop-i-test.false) at c.loop-i.invariant)
