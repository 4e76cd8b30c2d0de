-- `transfer::block_len` meets its contract: the tests choose the least.
use Rattle.std.proofs.Common.{sym, arith}
use Rattle.transfer.proofs.Lengths.{length_none, length-full, length_rest, product_small}
use Rattle.transfer.proofs.block_len.Goals as goal

pub overflow_mul-start : goal.overflow_mul-start
overflow_mul-start c = omega (arith, product_small c.args.n c.args.block_size (omega arith) (omega arith))

pub returns-then-size-start : goal.returns-then-size-start
returns-then-size-start c = sym (length_none _ _ _ c.if-size-start.true)

pub returns-then-each-rest : goal.returns-then-each-rest
returns-then-each-rest c = sym (length-full _ _ _ c.if-each-rest.true)

pub returns-else-each-rest : goal.returns-else-each-rest
returns-else-each-rest c = sym (length_rest _ _ _ c.if-each-rest.false)
