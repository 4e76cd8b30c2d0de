-- `judge` meets its contract: padding is refused first, where it is.
use mathlib.Core.Path.{sym, ◌∙◌}
use Rattle.post.specs.Judge.{judged_as}
use Rattle.post.proofs.judge.Goals as goal

pub returns-then-both : goal.returns-then-both
unfolding judged_as
returns-then-both c = rw (sym c.both.ensures ∙ c.if-both.true)

pub returns : goal.returns
unfolding judged_as
returns c = rw (sym c.both.ensures ∙ c.if-both.false) c.judge_seen.ensures
