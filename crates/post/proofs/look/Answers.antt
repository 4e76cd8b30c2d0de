-- What is left to show, goal by goal.
use mathlib.Core.Path.{sym, ap, ◌∙◌}
use native.Mathlib.Omega.{arith}
use Rattle.message.specs.declared.Reading.{Reading}
use Rattle.tlv.proofs.Laws.{record-inside, padded-start, padded-end, padded-unreadable, padded-more}
use Rattle.post.specs.Value.{is_padded}
use Rattle.post.proofs.Laws.{noted-count, large-seen, start_seen, none_seen, looked-end, looked-unreadable, looked-next, looked-block, block_start, padded-small, padded-large, padded-block, looked-by}
use Rattle.post.proofs.look.Goals as goal

pub returns-then-payload-gt1280 : goal.returns-then-payload-gt1280
returns-then-payload-gt1280 c =
    let a = c.args in
    looked-by a.groups a.time a.payload.now c.finish.ensures
    (large-seen a.groups a.time a.payload.now c.nothing-seen.ensures c.if-payload-gt1280.true)
    (padded-large a.payload.now c.if-payload-gt1280.true) (block_start a.payload.now c.no_block-block.ensures)

pub loop-at-init : goal.loop-at-init
loop-at-init c =
    let a = c.args in
    let e = c.nothing-seen.ensures in (
      start_seen a.groups a.time a.payload.now e c.if-payload-gt1280.false,
      none_seen e,
      omega arith,
      block_start a.payload.now c.no_block-block.ensures,
      padded-start is_padded a.payload.now,
    )

pub returns-in_default : goal.returns-in_default
returns-in_default c =
    let a = c.args in
    let l = c.loop-at in
    looked-by a.groups a.time a.payload.now c.finish-in_default.ensures
    (sym (l.invariant.0 ∙ looked-unreadable a.groups a.time a.payload.now l.at l.seen c.loop-at-test.true (sym c.take_record.ensures ∙ c.in_default.is)))
    (padded-small a.payload.now c.if-payload-gt1280.false (padded-unreadable is_padded a.payload.now l.at l.padded l.invariant.4 c.loop-at-test.true (sym c.take_record.ensures ∙ c.in_default.is)))
    l.invariant.3

pub slice_bounds-read_block-count : goal.slice_bounds-read_block-count
slice_bounds-read_block-count c =
    let i = record-inside c.args.payload.now c.loop-at.at _ (sym c.take_record.ensures ∙ c.in-Some.is) in
    omega arith

pub slice_bounds-read_block-start : goal.slice_bounds-read_block-start
slice_bounds-read_block-start c =
    let i = record-inside c.args.payload.now c.loop-at.at _ (sym c.take_record.ensures ∙ c.in-Some.is) in
    omega arith

pub slice_bounds-read_block-end : goal.slice_bounds-read_block-end
slice_bounds-read_block-end c =
    let i = record-inside c.args.payload.now c.loop-at.at _ (sym c.take_record.ensures ∙ c.in-Some.is) in
    omega arith

pub note_block-seen-requires : goal.note_block-seen-requires
note_block-seen-requires c =
    let l = c.loop-at.invariant in
    let h = c.if-payload-gt1280.false in
    omega arith

pub slice_bounds-v-count : goal.slice_bounds-v-count
slice_bounds-v-count c =
    let i = record-inside c.args.payload.now c.loop-at.at _ (sym c.take_record.ensures ∙ c.in-Some.is) in
    omega arith

pub slice_bounds-v-start : goal.slice_bounds-v-start
slice_bounds-v-start c =
    let i = record-inside c.args.payload.now c.loop-at.at _ (sym c.take_record.ensures ∙ c.in-Some.is) in
    omega arith

pub slice_bounds-v-end : goal.slice_bounds-v-end
slice_bounds-v-end c =
    let i = record-inside c.args.payload.now c.loop-at.at _ (sym c.take_record.ensures ∙ c.in-Some.is) in
    omega arith

pub note-seen-requires : goal.note-seen-requires
note-seen-requires c =
    let l = c.loop-at.invariant in
    let h = c.if-payload-gt1280.false in
    (omega arith, ap (λ (x : Reading). x.readable) c.read-reading.ensures)

pub loop-at-smaller-then-r-eq67 : goal.loop-at-smaller-then-r-eq67
loop-at-smaller-then-r-eq67 c =
    let i = record-inside c.args.payload.now c.loop-at.at _ (sym c.take_record.ensures ∙ c.in-Some.is) in
    omega arith

pub loop-at-preserved-then-r-eq67 : goal.loop-at-preserved-then-r-eq67
loop-at-preserved-then-r-eq67 c =
    let a = c.args in
    let p = a.payload.now in
    let l = c.loop-at in
    let b = c.read_block-block.ensures in
    let e = sym c.take_record.ensures ∙ c.in-Some.is in
    let i = record-inside p l.at _ e in
    let z = c.if-r-eq67.true in
    let k = c.note_block-seen.ensures a.groups a.time _ b in
    let n = noted-count a.groups a.time l.seen 67 _ c.note_block-seen.result k in (
      l.invariant.0 ∙ looked-block a.groups a.time p l.at l.seen _ c.note_block-seen.result e z k,
      omega arith,
      omega arith,
      b,
      padded-more is_padded p l.at l.padded l.invariant.4 _ e (padded-block _ _ z b) c.either.ensures c.either-padded.ensures,
    )

pub loop-at-smaller : goal.loop-at-smaller
loop-at-smaller c =
    let i = record-inside c.args.payload.now c.loop-at.at _ (sym c.take_record.ensures ∙ c.in-Some.is) in
    omega arith

pub loop-at-preserved : goal.loop-at-preserved
loop-at-preserved c =
    let a = c.args in
    let p = a.payload.now in
    let l = c.loop-at in
    let e = sym c.take_record.ensures ∙ c.in-Some.is in
    let i = record-inside p l.at _ e in
    let n = noted-count a.groups a.time l.seen _ _ c.note-seen.result c.note-seen.ensures in (
      l.invariant.0 ∙ looked-next a.groups a.time p l.at l.seen _ c.note-seen.result e c.note-seen.ensures,
      omega arith,
      omega arith,
      l.invariant.3,
      padded-more is_padded p l.at l.padded l.invariant.4 _ e (ap (λ (x : Reading). x.padded) c.read-reading.ensures) c.either-else-r-eq67.ensures c.either-padded-else-r-eq67.ensures,
    )

pub returns : goal.returns
returns c =
    let a = c.args in
    let l = c.loop-at in
    looked-by a.groups a.time a.payload.now c.finish-2.ensures
    (sym (l.invariant.0 ∙ looked-end a.groups a.time a.payload.now l.at l.seen c.loop-at-test.false))
    (padded-small a.payload.now c.if-payload-gt1280.false (padded-end is_padded a.payload.now l.at l.padded l.invariant.4 c.loop-at-test.false))
    l.invariant.3
