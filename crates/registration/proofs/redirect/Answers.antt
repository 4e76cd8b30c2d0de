-- `registration::redirect` meets its contract: no URL and an empty one are ignored, another starts registration again.
use mathlib.Core.Path.{sym, ◌∙◌}
use native.Mathlib.Omega.{arith}
use Rattle.registration.proofs.Laws.{url-inside, redirect-absent, redirect-empty, redirect-taken}
use Rattle.registration.proofs.redirect.Goals as goal

pub returns-in_default : goal.returns-in_default
returns-in_default c = sym (redirect-absent _ _ _ _ c.read_redirect-r.ensures c.in_default.is)

pub returns-then-start-end : goal.returns-then-start-end
returns-then-start-end c = sym (redirect-empty _ _ _ _ c.read_redirect-r.ensures _ _ c.in-Some.is c.if-start-end.true)

pub slice_bounds-of-count : goal.slice_bounds-of-count
slice_bounds-of-count c = let i = url-inside _ _ _ _ c.read_redirect-r.ensures c.in-Some.is in omega arith

pub slice_bounds-of-start : goal.slice_bounds-of-start
slice_bounds-of-start c = let i = url-inside _ _ _ _ c.read_redirect-r.ensures c.in-Some.is in omega arith

pub slice_bounds-of-end : goal.slice_bounds-of-end
slice_bounds-of-end c = let i = url-inside _ _ _ _ c.read_redirect-r.ensures c.in-Some.is in omega arith

pub returns : goal.returns
returns c = c.restart.ensures ∙ sym (redirect-taken _ _ _ _ c.read_redirect-r.ensures _ _ c.in-Some.is c.if-start-end.false _ c.of-url.ensures _ c.is_set.ensures)
