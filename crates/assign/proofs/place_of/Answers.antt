-- What is left to show, goal by goal.
use Prim.Native.Nat.{◌<◌}
use mathlib.Core.Path.{◌≡◌, sym, ◌∙◌}
use native.Mathlib.Omega.{arith}
use lib.ListN.{length, length-take}
use Rattle.assign.proofs.Laws.{place-start, place_end, place_here, place-next}
use Rattle.assign.proofs.place_of.Goals as goal
use Rattle.std.proofs.Common.{rules}

pub loop-i-init : goal.loop-i-init
loop-i-init c = place-start _ _

pub returns-then-groups-i : goal.returns-then-groups-i
returns-then-groups-i c =
    let a = c.args in
    let l = c.loop-i in
    let h = c.if-groups-i.true in
    sym (l.invariant ∙ place_end a.groups l.i a.kind (omega (arith, length-take a.groups.count a.groups.list)))

pub returns-then-pair-kind : goal.returns-then-pair-kind
returns-then-pair-kind c =
    let a = c.args in
    let l = c.loop-i in
    let n : l.i < length a.groups.list = (let e : length c.args.groups.list ≡ 8 = search rules in omega arith) in
    sym (l.invariant ∙ place_here a.groups l.i a.kind c.if-groups-i.false n c.if-pair-kind.true)

pub loop-i-preserved : goal.loop-i-preserved
loop-i-preserved c =
    let a = c.args in
    let l = c.loop-i in
    let n : l.i < length a.groups.list = (let e : length c.args.groups.list ≡ 8 = search rules in omega arith) in
    l.invariant ∙ place-next a.groups l.i a.kind c.if-groups-i.false n c.if-pair-kind.false

pub returns : goal.returns
returns c =
    let a = c.args in
    let l = c.loop-i in
    let e : length c.args.groups.list ≡ 8 = search rules in
    let h = c.loop-i-test.false in
    let n : l.i ≡ 8 = omega arith in
    sym (l.invariant ∙ place_end a.groups l.i a.kind (omega (arith, length-take a.groups.count a.groups.list)) ∙ n)
