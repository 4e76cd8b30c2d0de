-- What is left to show of `message::read_field` and `read_message`, goal by goal: a step of the definition at each answer.
use mathlib.Core.Path.{refl, sym, ap, ◌∙◌}
use Prim.Native.Nat.{◌+◌, ◌-◌}
use mathlib.Core.Bool.{true, false}
use lib.ListN.{length}
use native.Mathlib.Omega.{arith}
use Rattle.protobuf.specs.Field.{fields_from}
use Rattle.message.specs.Read.{unpadded, message_read}
use Rattle.message.specs.declared.Reading.{Reading}
use Rattle.protobuf.proofs.FieldLaws.{field-within, fields-end, fields-more, fields-unreadable}
use Rattle.message.proofs.RowLaws.{known-within}
use Rattle.message.proofs.ReadLaws.{leaves, field-unknown, field-other, field-noted, remaining, all-ended, all_more, message-none, message-fields, noted-length, part_length, part-most, field-into}
use Rattle.message.proofs.+read_field_read_message.Goals as goal

pub read_field-returns-in_default : goal.read_field-returns-in_default
read_field-returns-in_default t c =
    leaves (unpadded true) _ (field-unknown _ _ _ _ _ _ (sym c.row_of.ensures ∙ c.in_default.is)) c.told.ensures refl

pub read_field-returns-then-wire_of-f : goal.read_field-returns-then-wire_of-f
read_field-returns-then-wire_of-f t c =
    leaves (unpadded true) _ (field-other _ _ _ _ _ _ _ _ _ _ (sym c.row_of.ensures ∙ c.in-Some.is) (λ h. c.if-wire_of-f.true (c.wire_of.ensures ∙ h))) c.told-then-wire_of-f.ensures refl

pub read_field-note-requires : goal.read_field-note-requires
read_field-note-requires t c =
    let b = known-within c.args.table.now _ _ _ _ _ (sym c.row_of.ensures ∙ c.in-Some.is) in
    (omega arith, omega arith, omega arith)

pub read_field-returns-then-kind-lt-PART : goal.read_field-returns-then-kind-lt-PART
read_field-returns-then-kind-lt-PART t c =
    leaves _ _ (field-noted _ _ _ _ _ _ _ _ _ _ (sym c.row_of.ensures ∙ c.in-Some.is) (sym c.wire_of.ensures ∙ c.if-wire_of-f.false) c.if-kind-lt-PART.true) c.read_plain.ensures c.note.ensures

pub read_field-overflow_add-from : goal.read_field-overflow_add-from
read_field-overflow_add-from t c =
    let b = known-within c.args.table.now _ _ _ _ _ (sym c.row_of.ensures ∙ c.in-Some.is) in omega arith

pub read_field-offset_bounds-table-from : goal.read_field-offset_bounds-table-from
read_field-offset_bounds-table-from t c =
    let b = known-within c.args.table.now _ _ _ _ _ (sym c.row_of.ensures ∙ c.in-Some.is) in omega arith

pub read_field-slice_bounds-read_message-count-2 : goal.read_field-slice_bounds-read_message-count-2
read_field-slice_bounds-read_message-count-2 t c =
    let b = known-within c.args.table.now _ _ _ _ _ (sym c.row_of.ensures ∙ c.in-Some.is) in omega arith

pub read_field-slice_bounds-read_message-start-2 : goal.read_field-slice_bounds-read_message-start-2
read_field-slice_bounds-read_message-start-2 t c =
    let b = known-within c.args.table.now _ _ _ _ _ (sym c.row_of.ensures ∙ c.in-Some.is) in omega arith

pub read_field-slice_bounds-read_message-end-2 : goal.read_field-slice_bounds-read_message-end-2
read_field-slice_bounds-read_message-end-2 t c =
    let b = known-within c.args.table.now _ _ _ _ _ (sym c.row_of.ensures ∙ c.in-Some.is) in omega arith

pub read_field-offset_bounds-cells-from : goal.read_field-offset_bounds-cells-from
read_field-offset_bounds-cells-from t c =
    let b = known-within c.args.table.now _ _ _ _ _ (sym c.row_of.ensures ∙ c.in-Some.is) in omega arith

pub read_field-slice_bounds-read_message-count-3 : goal.read_field-slice_bounds-read_message-count-3
read_field-slice_bounds-read_message-count-3 t c =
    let b = known-within c.args.table.now _ _ _ _ _ (sym c.row_of.ensures ∙ c.in-Some.is) in omega arith

pub read_field-slice_bounds-read_message-start-3 : goal.read_field-slice_bounds-read_message-start-3
read_field-slice_bounds-read_message-start-3 t c =
    let b = known-within c.args.table.now _ _ _ _ _ (sym c.row_of.ensures ∙ c.in-Some.is) in omega arith

pub read_field-slice_bounds-read_message-end-3 : goal.read_field-slice_bounds-read_message-end-3
read_field-slice_bounds-read_message-end-3 t c =
    let b = known-within c.args.table.now _ _ _ _ _ (sym c.row_of.ensures ∙ c.in-Some.is) in omega arith

pub read_field-read_message-requires : goal.read_field-read_message-requires
read_field-read_message-requires t c =
    let q = c.args in
    let b = part-most (q.f.end - q.f.start) q.f.start q.v.now in
    (omega arith, (part_length (c.in-Some.field-0.end - (c.in-Some.field-0.at + 3)) (c.in-Some.field-0.at + 3) c.note.new.cells q.table.now (ap length c.note.ensures ∙ noted-length q.cells.now c.in-Some.field-0.at q.base q.f ∙ c.requires.0), omega arith))

pub read_field-returns : goal.read_field-returns
read_field-returns t c =
    let b = known-within c.args.table.now _ _ _ _ _ (sym c.row_of.ensures ∙ c.in-Some.is) in
    field-into _ _ _ _ _ _ _ _ _ _ (sym c.row_of.ensures ∙ c.in-Some.is) (sym c.wire_of.ensures ∙ c.if-wire_of-f.false) c.if-kind-lt-PART.false b.0 _ c.note.ensures c.read_message.ensures

pub read_message-returns-then-depth-eq0 : goal.read_message-returns-then-depth-eq0
read_message-returns-then-depth-eq0 t c = leaves (unpadded false) _ (message-none _ _ _ _ _ c.if-depth-eq0.true) c.told.ensures refl

pub read_message-loop-at-init : goal.read_message-loop-at-init
read_message-loop-at-init t c =
    let a = c.args in
    record {
      walked = message-fields _ _ _ _ _ c.if-depth-eq0.false ∙ ap (λ (u : Reading). remaining (message_read (a.depth - 1)) a.table.now a.base a.v.now u a.cells.now (fields_from a.v.now 0)) (sym c.told-reading.ensures);
      long = c.requires.0;
    }

pub read_message-returns-in_default : goal.read_message-returns-in_default
read_message-returns-in_default t c =
    leaves _ _ (c.loop-at.invariant.walked ∙ ap (remaining _ _ _ _ _ _) (fields-unreadable _ _ c.loop-at-test.true (sym c.field_at.ensures ∙ c.in_default.is)) ∙ all-ended _ _ _ _ _ _ _) c.cut.ensures refl

pub read_message-read_field-held-requires : goal.read_message-read_field-held-requires
read_message-read_field-held-requires t c =
    let b = field-within _ _ _ (sym c.field_at.ensures ∙ c.in-Some.is) in
    (omega arith, (c.loop-at.invariant.long, c.requires.1, b.1, b.2))

pub read_message-loop-at-smaller : goal.read_message-loop-at-smaller
read_message-loop-at-smaller t c =
    let b = field-within _ _ _ (sym c.field_at.ensures ∙ c.in-Some.is) in omega arith

pub read_message-loop-at-preserved : goal.read_message-loop-at-preserved
read_message-loop-at-preserved t c =
    record {
      walked = c.loop-at.invariant.walked ∙ ap (remaining _ _ _ _ _ _) (fields-more _ _ _ c.loop-at-test.true (sym c.field_at.ensures ∙ c.in-Some.is)) ∙ all_more _ _ _ _ _ _ _ _ _ _ _ _ c.read_field-held.ensures c.join-reading.ensures;
      long = omega arith;
    }

pub read_message-returns : goal.read_message-returns
read_message-returns t c =
    leaves c.loop-at.reading _ (c.loop-at.invariant.walked ∙ ap (remaining _ _ _ _ _ _) (fields-end _ _ c.loop-at-test.false) ∙ all-ended _ _ _ _ _ _ _) refl refl
