-- `registration::is_followed` meets its contract: by the URL's place.
use mathlib.Core.Path.{sym}
use Rattle.registration.proofs.Laws.{follows-none, follows-some}
use Rattle.registration.proofs.is_followed.Goals as goal

pub returns-in_default : goal.returns-in_default
returns-in_default c = sym (follows-none _ _ c.read_redirect-r.ensures c.in_default.is)

pub returns : goal.returns
returns c = sym (follows-some _ _ c.read_redirect-r.ensures _ _ c.in-Some.is)
