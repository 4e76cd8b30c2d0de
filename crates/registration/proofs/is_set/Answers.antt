-- `registration::is_set` meets its contract: by the flag.
use Rattle.registration.specs.Redirect.{is_set}
use Rattle.registration.proofs.is_set.Goals as goal

pub returns-in_default : goal.returns-in_default
unfolding is_set
returns-in_default c = rw c.in_default.is

pub returns : goal.returns
unfolding is_set
returns c = rw c.in-Some.is
