-- `assign::with_session` meets its contract: an id, or ignored.
use mathlib.Core.Path.{sym}
use native.Mathlib.Omega.{arith}
use Rattle.assign.proofs.Laws.{id-inside, session-none, session-some}
use Rattle.assign.proofs.with_session.Goals as goal

pub returns-in_default : goal.returns-in_default
returns-in_default c = sym (session-none _ _ _ c.read_session-m.ensures c.in_default.is)

pub slice_bounds-of-count : goal.slice_bounds-of-count
slice_bounds-of-count c = let i = id-inside c.args.assigned _ _ c.read_session-m.ensures _ _ c.in-Some.is in omega arith

pub slice_bounds-of-start : goal.slice_bounds-of-start
slice_bounds-of-start c = let i = id-inside c.args.assigned _ _ c.read_session-m.ensures _ _ c.in-Some.is in omega arith

pub slice_bounds-of-end : goal.slice_bounds-of-end
slice_bounds-of-end c = let i = id-inside c.args.assigned _ _ c.read_session-m.ensures _ _ c.in-Some.is in omega arith

pub returns : goal.returns
returns c = sym (session-some _ _ _ c.read_session-m.ensures _ _ c.in-Some.is _ c.of-session.ensures)
