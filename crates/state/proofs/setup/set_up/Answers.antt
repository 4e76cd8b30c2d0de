-- `state::setup::set_up` meets its contract: a failed check refuses, and else the first state is made.
use mathlib.Core.Path.{sym, ◌∙◌}
use Rattle.state.specs.Setup.{setup_of}
use Rattle.state.proofs.setup.set_up.Goals as goal

pub returns-then-not-valid_texts : goal.returns-then-not-valid_texts
unfolding setup_of
returns-then-not-valid_texts c = rw (sym c.valid_texts.ensures ∙ c.if-not-valid_texts.true) c.refuse.ensures

pub returns-then-not-valid_settings : goal.returns-then-not-valid_settings
unfolding setup_of
returns-then-not-valid_settings c = rw (sym c.valid_texts.ensures ∙ c.if-not-valid_texts.false, sym c.valid_settings.ensures ∙ c.if-not-valid_settings.true) c.refuse-then-not-valid_settings.ensures

pub returns : goal.returns
unfolding setup_of
returns c = rw (sym c.valid_texts.ensures ∙ c.if-not-valid_texts.false, sym c.valid_settings.ensures ∙ c.if-not-valid_settings.false, c.first_state-state.ensures)
