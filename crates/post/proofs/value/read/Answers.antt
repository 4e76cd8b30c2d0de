-- `value::read` meets its contract: the type tells which reader decides.
use borrow.Author.Tests.{ne_eqb}
use Rattle.post.specs.Value.{reading_at}
use Rattle.std.proofs.Common.{arith}
use Rattle.post.proofs.value.read.Goals as goal

pub returns-in-6 : goal.returns-in-6
unfolding reading_at
returns-in-6 c = rw (c.in-6.is, c.read_redirect.ensures)

pub returns-in-57 : goal.returns-in-57
unfolding reading_at
returns-in-57 c = rw (c.in-57.is, c.read_group.ensures)

pub returns-in-65 : goal.returns-in-65
unfolding reading_at
returns-in-65 c = rw (c.in-65.is, c.read_transfer.ensures)

pub returns-in-67 : goal.returns-in-67
unfolding reading_at
returns-in-67 c = rw (c.in-67.is, c.read_block.ensures)

pub returns-in-68 : goal.returns-in-68
unfolding reading_at
returns-in-68 c = rw (c.in-68.is, c.read_load.ensures)

pub returns-in-69 : goal.returns-in-69
unfolding reading_at
returns-in-69 c = rw (c.in-69.is, c.read_hash.ensures)

pub returns-in-70 : goal.returns-in-70
unfolding reading_at
returns-in-70 c = rw (c.in-70.is, c.read_hash-in-70.ensures)

pub returns-in-76 : goal.returns-in-76
unfolding reading_at
returns-in-76 c = rw (c.in-76.is, c.read_validity.ensures)

pub returns-in-77 : goal.returns-in-77
unfolding reading_at
returns-in-77 c = rw (c.in-77.is, c.read_signature.ensures)

pub returns-in_default : goal.returns-in_default
unfolding reading_at
returns-in_default c = rw (c.empty.ensures, ne_eqb c.args.kind 6 (λ h. omega arith), ne_eqb c.args.kind 57 (λ h. omega arith), ne_eqb c.args.kind 65 (λ h. omega arith), ne_eqb c.args.kind 67 (λ h. omega arith), ne_eqb c.args.kind 68 (λ h. omega arith), ne_eqb c.args.kind 69 (λ h. omega arith), ne_eqb c.args.kind 70 (λ h. omega arith), ne_eqb c.args.kind 76 (λ h. omega arith), ne_eqb c.args.kind 77 (λ h. omega arith))
