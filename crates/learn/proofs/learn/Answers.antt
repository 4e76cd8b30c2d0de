-- What is left to show, goal by goal.
use Prim.Native.Nat.{◌-◌}
use mathlib.Core.Path.{refl, sym, ap, ◌∙◌}
use native.Mathlib.Omega.{arith}
use Rattle.message.specs.declared.Reading.{Reading}
use Rattle.note.specs.Note.{is_padded}
use Rattle.tlv.proofs.Laws.{record-inside, padded-start, padded-end, padded-unreadable, padded-more}
use Rattle.learn.proofs.Laws.{learnt-start, learnt-end, learnt-unreadable, learnt-next, learnt-padded}
use Rattle.learn.proofs.learn.Goals as goal

pub loop-at-init : goal.loop-at-init
loop-at-init c = (refl, omega arith, padded-start is_padded _)

pub returns-in_default : goal.returns-in_default
returns-in_default c =
    let l = c.loop-at in
    let h = c.loop-at-test.true in
    let e = sym c.take_record.ensures ∙ c.in_default.is in (
      c.mark-learnt.ensures ∙ sym (learnt-start _ _ _ _ _ _ c.nothing-learnt.ensures ∙ l.invariant.0 ∙ learnt-unreadable _ _ _ _ _ h e),
      learnt-padded c.args.payload.now (padded-unreadable is_padded _ l.at l.padded l.invariant.2 h e),
    )

pub slice_bounds-v-count : goal.slice_bounds-v-count
slice_bounds-v-count c = let i = record-inside c.args.payload.now c.loop-at.at _ (sym c.take_record.ensures ∙ c.in-Some.is) in omega arith

pub slice_bounds-v-start : goal.slice_bounds-v-start
slice_bounds-v-start c = let i = record-inside c.args.payload.now c.loop-at.at _ (sym c.take_record.ensures ∙ c.in-Some.is) in omega arith

pub slice_bounds-v-end : goal.slice_bounds-v-end
slice_bounds-v-end c = let i = record-inside c.args.payload.now c.loop-at.at _ (sym c.take_record.ensures ∙ c.in-Some.is) in omega arith

pub loop-at-smaller : goal.loop-at-smaller
loop-at-smaller c = let i = record-inside c.args.payload.now c.loop-at.at _ (sym c.take_record.ensures ∙ c.in-Some.is) in omega arith

pub loop-at-preserved : goal.loop-at-preserved
loop-at-preserved c =
    let p = c.args.payload.now in
    let l = c.loop-at in
    let e = sym c.take_record.ensures ∙ c.in-Some.is in
    let i = record-inside p l.at _ e in
    let r = c.read-reading.ensures in (
      l.invariant.0 ∙ learnt-next _ _ _ _ _ _ _ e (c.note-learnt.ensures (ap (λ (x : Reading). x.readable) r)),
      omega arith,
      padded-more is_padded p l.at l.padded l.invariant.2 _ e (ap (λ (x : Reading). x.padded) r) c.either.ensures c.either-padded.ensures,
    )

pub returns : goal.returns
returns c =
    let l = c.loop-at in (
      sym (learnt-start _ _ _ _ _ _ c.nothing-learnt.ensures ∙ l.invariant.0 ∙ learnt-end _ _ _ _ _ c.loop-at-test.false),
      learnt-padded c.args.payload.now (padded-end is_padded _ l.at l.padded l.invariant.2 c.loop-at-test.false),
    )
