-- `transfer::block::take_block` meets its contract: an offer with the open hash, a number and bytes is put.
use Rattle.std.proofs.Common.{sym, ◌∙◌}
use Rattle.transfer.proofs.BlockLaws.{left_other, left-numberless, left-dataless, left-this}
use Rattle.transfer.proofs.block.take_block.Goals as goal

pub returns-then-not-field_is : goal.returns-then-not-field_is
returns-then-not-field_is c =
    λ i h p. let a = c.args in
    left_other i a.flash.now p a.v.now a.block h (sym c.field_is.ensures ∙ c.if-not-field_is.true)

pub returns-in_default : goal.returns-in_default
returns-in_default c =
    λ i h p. let a = c.args in
    left-numberless i a.flash.now p a.v.now a.block h (sym c.field_is.ensures ∙ c.if-not-field_is.false) c.in_default.is

pub returns-in_default-place : goal.returns-in_default-place
returns-in_default-place c =
    λ i h p. let a = c.args in
    left-dataless i a.flash.now p a.v.now a.block h (sym c.field_is.ensures ∙ c.if-not-field_is.false)
    c.in-Some.is c.in_default-place.is

pub returns : goal.returns
returns c =
    λ i h p. let x = c in let a = x.args in
    left-this i a.flash.now p a.v.now a.block h (sym x.field_is.ensures ∙ x.if-not-field_is.false)
    x.in-Some.is x.in-Some-place.is c.part.ensures (c.put_block.ensures i p)
