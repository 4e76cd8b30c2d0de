-- `value::is_late` meets its contract: an absent bound is open, and else the bound is before now or not.
use Rattle.post.specs.Value.{is_late}
use Rattle.post.proofs.value.is_late.Goals as goal

pub returns-in_default : goal.returns-in_default
unfolding is_late
returns-in_default c = rw c.in_default.is

pub returns : goal.returns
unfolding is_late
returns c = rw c.in-Some.is c.before-2.ensures
