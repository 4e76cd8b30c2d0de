-- `value::is_expired` meets its contract: another type has no bounds, and else one of the two is passed or not.
use borrow.Author.Tests.{eq-eqb, ne_eqb}
use Rattle.post.specs.Value.{is_expired}
use Rattle.post.proofs.value.is_expired.Goals as goal

pub returns-then-kind-ne76 : goal.returns-then-kind-ne76
unfolding is_expired
returns-then-kind-ne76 c = rw (ne_eqb c.args.kind 76 c.if-kind-ne76.true)

pub returns : goal.returns
unfolding is_expired
returns c = rw (eq-eqb c.args.kind 76 c.if-kind-ne76.false) (cc)
