-- What is left to show, goal by goal.
use mathlib.Core.Path.{◌≡◌, ◌∙◌}
use mathlib.Core.List.{[]}
use native.Mathlib.Omega.{arith}
use lib.ListN.{length}
use Rattle.buffer.proofs.Puts.{appended-put, appended-most, appended-join}
use Rattle.own.proofs.Laws.{groups-start, groups-past, groups-end, groups-next}
use Rattle.std.proofs.Common.{rules}
use Rattle.own.proofs.put_groups.Goals as goal

pub loop-i-init : goal.loop-i-init
loop-i-init c = groups-start _ _ _ _ (appended-most (appended-put c.put-end.ensures))

pub shape_of-out-then-groups-i : goal.shape_of-out-then-groups-i
shape_of-out-then-groups-i c = c.loop-i.invariant.kept ∙ (appended-put c.put-end.ensures).kept

pub returns-then-groups-i : goal.returns-then-groups-i
returns-then-groups-i c = appended-join [] _ (appended-put c.put-end.ensures) (groups-past _ _ _ c.if-groups-i.true c.loop-i.invariant)

pub loop-i-preserved : goal.loop-i-preserved
loop-i-preserved c =
    let s : length c.args.groups.list ≡ 8 = search rules in
    groups-next c.args.groups.list _ _ c.if-groups-i.false (omega arith) c.loop-i.invariant c.put_group-end.ensures

pub shape_of-out : goal.shape_of-out
shape_of-out c = c.loop-i.invariant.kept ∙ (appended-put c.put-end.ensures).kept

pub returns : goal.returns
returns c =
    let s : length c.args.groups.list ≡ 8 = search rules in
    appended-join [] _ (appended-put c.put-end.ensures) (groups-end c.args.groups.list _ _ (omega arith) c.loop-i.invariant)
