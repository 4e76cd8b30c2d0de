-- What is left to show, goal by goal.
use mathlib.Core.Path.{refl, sym, ◌∙◌}
use native.Mathlib.Omega.{arith}
use Rattle.std.proofs.Common.{rules}
use Rattle.tlv.proofs.Laws.{record-inside}
use Rattle.transfer.specs.Bitmap.{with_held}
use Rattle.run.proofs.Fronts.{front-start, front-unreadable, front-skipped, front-block}
use Rattle.run.proofs.front.take_blocks.Goals as goal

pub loop-at-init : goal.loop-at-init
loop-at-init c = (λ i o h p. front-start i _ _ p, refl)

pub returns-in_default : goal.returns-in_default
returns-in_default c =
    let l = c.loop-at in
    λ i o h p. front-unreadable i _ _ (l.invariant.0 i o h p) c.loop-at-test.true (sym c.take_record.ensures ∙ c.in_default.is)

pub returns-then-needs_more : goal.returns-then-needs_more
returns-then-needs_more c = c.loop-at.invariant.0

pub block_at-block-requires : goal.block_at-block-requires
block_at-block-requires c =
    let i = record-inside c.args.payload.now c.loop-at.at _ (sym c.take_record.ensures ∙ c.in-Some.is) in
    (omega arith, omega arith, c.requires)

pub slice_bounds-v-count : goal.slice_bounds-v-count
slice_bounds-v-count c =
    let i = record-inside c.args.payload.now c.loop-at.at _ (sym c.take_record.ensures ∙ c.in-Some.is) in
    omega arith

pub slice_bounds-v-start : goal.slice_bounds-v-start
slice_bounds-v-start c =
    let i = record-inside c.args.payload.now c.loop-at.at _ (sym c.take_record.ensures ∙ c.in-Some.is) in
    omega arith

pub slice_bounds-v-end : goal.slice_bounds-v-end
slice_bounds-v-end c =
    let i = record-inside c.args.payload.now c.loop-at.at _ (sym c.take_record.ensures ∙ c.in-Some.is) in
    omega arith

pub loop-at-smaller-then-both : goal.loop-at-smaller-then-both
loop-at-smaller-then-both c =
    let i = record-inside c.args.payload.now c.loop-at.at _ (sym c.take_record.ensures ∙ c.in-Some.is) in
    omega arith

pub loop-at-preserved-then-both : goal.loop-at-preserved-then-both
loop-at-preserved-then-both c =
    let l = c.loop-at in
    let e = sym c.take_record.ensures ∙ c.in-Some.is in
    let n = sym c.needs_more.ensures ∙ c.if-needs_more.false in (
      λ i o h p.
          front-block i _ _ (l.invariant.0 i o h p) _ e n o c.both.ensures c.if-both.true
          (rw c.block_at-block.ensures at (c.take_block-held.ensures (with_held i.image l.map l.held) h (record { sized = p.sized; blocked = p.blocked; mapped = refl; counted = refl }))),
      search rules,
    )

pub loop-at-smaller : goal.loop-at-smaller
loop-at-smaller c =
    let i = record-inside c.args.payload.now c.loop-at.at _ (sym c.take_record.ensures ∙ c.in-Some.is) in
    omega arith

pub loop-at-preserved : goal.loop-at-preserved
loop-at-preserved c =
    let l = c.loop-at in
    let e = sym c.take_record.ensures ∙ c.in-Some.is in
    let n = sym c.needs_more.ensures ∙ c.if-needs_more.false in (
      λ i o h p. front-skipped i _ _ (l.invariant.0 i o h p) _ e n o c.both.ensures c.if-both.false,
      search rules,
    )

pub returns : goal.returns
returns c = λ i o h p. c.loop-at.invariant.0 i o h p
