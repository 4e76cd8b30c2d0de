-- `state::setup::valid_settings` meets its contract: each test that fails decides.
use mathlib.Core.Path.{sym, ◌∙◌}
use borrow.Author.Tests.{lt-leb, le-leb}
use Rattle.state.specs.Setup.{valid_settings}
use Rattle.state.proofs.setup.valid_settings.Goals as goal

pub returns-then-not-between : goal.returns-then-not-between
unfolding valid_settings
returns-then-not-between c = rw (sym c.between.ensures ∙ c.if-not-between.true)

pub returns-then-s-lt1 : goal.returns-then-s-lt1
unfolding valid_settings
returns-then-s-lt1 c = let s = c.args.s in rw (sym c.between.ensures ∙ c.if-not-between.false, lt-leb 1 s.interval_min.0 c.if-s-lt1.true)

pub returns-then-s : goal.returns-then-s
unfolding valid_settings
returns-then-s c = let s = c.args.s in rw (sym c.between.ensures ∙ c.if-not-between.false, le-leb 1 s.interval_min.0 c.if-s-lt1.false, lt-leb s.interval_min.0 s.interval_max.0 c.if-s.true)

pub returns : goal.returns
unfolding valid_settings
returns c = let s = c.args.s in rw (sym c.between.ensures ∙ c.if-not-between.false, le-leb 1 s.interval_min.0 c.if-s-lt1.false, le-leb s.interval_min.0 s.interval_max.0 c.if-s.false)
