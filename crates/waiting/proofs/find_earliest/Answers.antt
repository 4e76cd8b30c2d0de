-- What is left to show, goal by goal.
use lib.ListN.{length, length-take}
use Prim.Native.Nat.{◌<◌}
use mathlib.Core.Path.{◌≡◌, sym, ◌∙◌}
use native.Mathlib.Omega.{arith}
use Rattle.std.proofs.Common.{rules}
use Rattle.waiting.proofs.Laws.{rest-start, rest-here, rest-next, rest_end}
use Rattle.waiting.proofs.find_earliest.Goals as goal
use Rattle.waiting.proofs.find_earliest.Goals.{then-both, else-both}

pub loop-i-init : goal.loop-i-init
loop-i-init c =
    let a = c.args in
    rw c.over_at-over.ensures (rest-start a.list a.count (let e : length a.list ≡ 4 = search rules in omega arith))

pub loop-i-preserved : goal.loop-i-preserved
loop-i-preserved c =
    let l = c.loop-i in
    let n : l.i < length c.args.list = (let e : length c.args.list ≡ 4 = search rules in omega arith) in
    let a = c.over_at-at.ensures in
    let b = c.both.ensures in
    elim c.if-both.branch [
      | then-both w ↦ rw (w.best-is, w.over-is) (l.invariant ∙ rest-here _ _ _ _ _ n _ a _ b w.if-both.true)
      | else-both w ↦ rw (w.best-is, w.over-is) (l.invariant ∙ rest-next _ _ _ _ _ n _ a _ b w.if-both.false)
    ]

pub returns : goal.returns
returns c =
    let a = c.args in
    let l = c.loop-i in
    let e : length a.list ≡ 4 = search rules in
    sym (l.invariant ∙ rest_end a.list a.count l.best l.over l.i (omega (arith, length-take a.count a.list)))
