-- `waiting::take_due` meets its contract: none waits, the earliest is not due, or it is taken out.
use mathlib.Core.Path.{◌≡◌}
use native.Mathlib.Omega.{arith}
use lib.ListN.{length}
use Rattle.waiting.proofs.Laws.{earliest-within, due-none, due-later, due-now}
use Rattle.std.proofs.Common.{rules}
use Rattle.waiting.proofs.take_due.Goals as goal

pub offset_bounds-list-place : goal.offset_bounds-list-place
offset_bounds-list-place c =
    let e : length c.args.waiting.list ≡ 4 = search rules in
    let f = c.find_earliest-place.ensures in
    omega (arith, earliest-within c.args.waiting.list c.args.waiting.count (omega arith))

pub bounds-list-place : goal.bounds-list-place
bounds-list-place c =
    let e : length c.args.waiting.list ≡ 4 = search rules in
    let f = c.find_earliest-place.ensures in
    omega (arith, earliest-within c.args.waiting.list c.args.waiting.count (omega arith))

pub returns-then-count-eq0 : goal.returns-then-count-eq0
returns-then-count-eq0 c = due-none _ _ c.if-count-eq0.true

pub returns-then-time-over_at : goal.returns-then-time-over_at
returns-then-time-over_at c = due-later _ _ _ c.find_earliest-place.ensures c.if-count-eq0.false _ c.over_at.ensures c.if-time-over_at.true

pub returns : goal.returns
returns c =
    due-now _ _ _ c.find_earliest-place.ensures c.if-count-eq0.false _ c.over_at.ensures
    c.if-time-over_at.false _ c.take_out.ensures
