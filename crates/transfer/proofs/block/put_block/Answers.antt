-- `transfer::block::put_block` meets its contract: only a block that fits and is missing is put.
use Rattle.std.proofs.Common.{sym, ◌∙◌, arith}
use Rattle.transfer.specs.Bitmap.{one_more}
use Rattle.transfer.proofs.BlockLaws.{left-unfit, left-held, left-new}
use Rattle.transfer.proofs.Lengths.{product_small}
use Rattle.transfer.proofs.block.put_block.Goals as goal

pub returns-then-not-fits_at : goal.returns-then-not-fits_at
returns-then-not-fits_at c = λ i p. left-unfit i _ p _ _ (sym c.fits_at.ensures ∙ c.if-not-fits_at.true)

pub returns-then-is_held : goal.returns-then-is_held
returns-then-is_held c = λ i p. left-held i _ p _ _ (sym c.is_held.ensures ∙ c.if-is_held.true)

pub overflow_mul-start : goal.overflow_mul-start
overflow_mul-start c =
    let a = c.args in
    omega (arith, product_small a.n a.block_size (omega arith) (omega arith))

pub returns : goal.returns
unfolding one_more
returns c =
    λ i p.
    let x = c in
    let a = x.args in
    left-new i a.flash.now p a.n a.bytes.now (sym x.fits_at.ensures ∙ x.if-not-fits_at.false)
    (sym x.is_held.ensures ∙ x.if-is_held.false) c.hold.ensures c.wrapping_add_u32.ensures.value
    c.copy_block.ensures
