-- `state::setup::valid_texts` meets its contract: each test that fails decides.
use mathlib.Core.Path.{sym, ◌∙◌}
use borrow.Author.Tests.{lt-leb, le-leb, eq-eqb, ne_eqb}
use lib.ListN.{length}
use Rattle.state.specs.Setup.{valid_texts}
use Rattle.state.proofs.setup.valid_texts.Goals as goal

pub returns-then-not-between : goal.returns-then-not-between
unfolding valid_texts
returns-then-not-between c = rw (sym c.between.ensures ∙ c.if-not-between.true)

pub returns-then-vendor_hw_id-gt32 : goal.returns-then-vendor_hw_id-gt32
unfolding valid_texts
returns-then-vendor_hw_id-gt32 c = let a = c.args in rw (sym c.between.ensures ∙ c.if-not-between.false, lt-leb (length a.vendor_hw_id.now) 32 c.if-vendor_hw_id-gt32.true)

pub returns-then-running-ne32 : goal.returns-then-running-ne32
unfolding valid_texts
returns-then-running-ne32 c = let a = c.args in rw (sym c.between.ensures ∙ c.if-not-between.false, le-leb (length a.vendor_hw_id.now) 32 c.if-vendor_hw_id-gt32.false, ne_eqb (length a.running.now) 32 c.if-running-ne32.true)

pub returns : goal.returns
unfolding valid_texts
returns c = let a = c.args in rw (sym c.between.ensures ∙ c.if-not-between.false, le-leb (length a.vendor_hw_id.now) 32 c.if-vendor_hw_id-gt32.false, eq-eqb (length a.running.now) 32 c.if-running-ne32.false) c.between-2.ensures
