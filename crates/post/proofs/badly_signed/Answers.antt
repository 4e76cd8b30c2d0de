-- `badly_signed` meets its contract: each test that holds decides.
use borrow.Author.Tests.{eq-eqb, ne_eqb}
use Rattle.post.specs.Judge.{badly_signed}
use Rattle.post.proofs.badly_signed.Goals as goal

pub returns-then-not-signed : goal.returns-then-not-signed
unfolding badly_signed
returns-then-not-signed c = rw (c.if-not-signed.true)

pub returns-then-verdict-eq2 : goal.returns-then-verdict-eq2
unfolding badly_signed
returns-then-verdict-eq2 c = rw (c.if-not-signed.false, eq-eqb c.args.verdict 2 c.if-verdict-eq2.true)

pub returns-then-verdict-eq1 : goal.returns-then-verdict-eq1
unfolding badly_signed
returns-then-verdict-eq1 c = rw (c.if-not-signed.false, ne_eqb c.args.verdict 2 c.if-verdict-eq2.false, eq-eqb c.args.verdict 1 c.if-verdict-eq1.true)

pub returns : goal.returns
unfolding badly_signed
returns c = rw (c.if-not-signed.false, ne_eqb c.args.verdict 2 c.if-verdict-eq2.false, ne_eqb c.args.verdict 1 c.if-verdict-eq1.false)
