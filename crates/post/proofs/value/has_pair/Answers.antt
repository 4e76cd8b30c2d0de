-- What is left to show, goal by goal.
use Prim.Native.Nat.{◌<◌}
use mathlib.Core.Path.{◌≡◌, sym, ◌∙◌}
use native.Mathlib.Omega.{arith}
use lib.ListN.{length, length-take}
use Rattle.post.proofs.Laws.{pair-start, pair_end, pair-here, pair-kind, pair-id}
use Rattle.post.proofs.value.has_pair.Goals as goal
use Rattle.post.proofs.value.has_pair.Goals.{then-pair-kind+else-pair-id, else-pair-kind}
use Rattle.std.proofs.Common.{rules}

pub loop-i-init : goal.loop-i-init
loop-i-init c = pair-start _ _ _

pub returns-then-groups-i : goal.returns-then-groups-i
returns-then-groups-i c =
    let a = c.args in
    let h = c.if-groups-i.true in
    sym (c.loop-i.invariant ∙ pair_end a.groups c.loop-i.i a.kind a.id (omega (arith, length-take a.groups.count a.groups.list)))

pub returns-then-pair-id : goal.returns-then-pair-id
returns-then-pair-id c =
    let a = c.args in
    let l = c.loop-i in
    sym (l.invariant ∙ pair-here a.groups l.i a.kind a.id c.if-groups-i.false (let e : length a.groups.list ≡ 8 = search rules in omega arith) c.if-pair-kind.true c.if-pair-id.true)

pub loop-i-preserved : goal.loop-i-preserved
loop-i-preserved c =
    let a = c.args in
    let l = c.loop-i in
    let n : l.i < length a.groups.list = (let e : length a.groups.list ≡ 8 = search rules in omega arith) in
    l.invariant
    ∙ elim c.if-pair-kind.branch [
      | then-pair-kind+else-pair-id w ↦ pair-id a.groups l.i a.kind a.id c.if-groups-i.false n w.if-pair-kind.true w.if-pair-id.false
      | else-pair-kind w ↦ pair-kind a.groups l.i a.kind a.id c.if-groups-i.false n w.if-pair-kind.false
    ]

pub returns : goal.returns
returns c =
    let a = c.args in
    let e : length a.groups.list ≡ 8 = search rules in
    let h = c.loop-i-test.false in
    sym (c.loop-i.invariant ∙ pair_end a.groups c.loop-i.i a.kind a.id (omega (arith, length-take a.groups.count a.groups.list)))
