-- `value::is_early` meets its contract: an absent bound is open, and else the bound is after now or not.
use Rattle.post.specs.Value.{is_early}
use Rattle.post.proofs.value.is_early.Goals as goal

pub returns-in_default : goal.returns-in_default
unfolding is_early
returns-in_default c = rw c.in_default.is

pub returns : goal.returns
unfolding is_early
returns c = rw c.in-Some.is c.before-2.ensures
