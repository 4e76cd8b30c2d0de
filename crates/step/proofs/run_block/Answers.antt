-- `step::run_block` meets its contract: only an open image takes a block, and the parts handed down are its own.
use mathlib.Core.Path.{refl}
use borrow.Author.Tests.{not-true, not-false}
use Rattle.step.specs.Step.{world_of}
use Rattle.step.proofs.Steps.{block_closed, block-open}
use Rattle.step.proofs.run_block.Goals as goal

pub returns-then-not-ran : goal.returns-then-not-ran
returns-then-not-ran c = (block_closed _ _ (not-true _ c.if-not-ran.true), refl)

pub returns : goal.returns
returns c =
    let x = c in
    let y = x in
    let o = y in
    let a = o.args in (
      block-open (world_of a.ran a.flash.now) a.v.now (not-false _ o.if-not-ran.false) y.read_block-block.ensures
          (x.take_block-held.ensures a.ran.images.image refl (record { sized = refl; blocked = refl; mapped = refl; counted = refl })),
      refl,
    )
