-- What is left to show, goal by goal.
use mathlib.Core.Path.{sym, ap, ◌∙◌}
use native.Mathlib.Omega.{arith}
use Rattle.protobuf.proofs.FieldLaws.{field-within, fields-end, fields-more, fields-unreadable}
use Rattle.decode_report.specs.Report.{with_entries, listed_in}
use Rattle.tables.specs.Table.{contents, alike, value_of}
use Rattle.decode_report.proofs.ListLaws.{field-first}
use Rattle.decode_report.proofs.read_ids.Invariants.{left}
use Rattle.decode_report.proofs.read_ids.Goals as goal

pub loop-at-init : goal.loop-at-init
unfolding listed_in contents
loop-at-init c = rw c.empty-ids.ensures

pub returns-in_default : goal.returns-in_default
unfolding with_entries value_of alike
returns-in_default c =
    let l = c.loop-at in
    sym (l.invariant ∙ ap (left _ _) (fields-unreadable _ _ c.loop-at-test.true (sym c.field_at.ensures ∙ c.in_default.is)))

pub add_field-ids-requires : goal.add_field-ids-requires
add_field-ids-requires c =
    let x = c in
    let e = sym x.field_at.ensures ∙ x.in-Some.is in
    let b = field-within _ _ _ e in
    (b.1, b.2)

pub loop-at-smaller : goal.loop-at-smaller
loop-at-smaller c =
    let x = c in
    let e = sym x.field_at.ensures ∙ x.in-Some.is in
    let b = field-within _ _ _ e in
    omega arith

pub loop-at-preserved : goal.loop-at-preserved
loop-at-preserved c =
    let x = c in
    let e = sym x.field_at.ensures ∙ x.in-Some.is in
    rw c.add_field-ids.ensures (x.loop-at.invariant ∙ ap (left _ _) (fields-more _ _ _ x.loop-at-test.true e) ∙ field-first _ _ _ _)

pub returns : goal.returns
unfolding with_entries value_of alike
returns c = let l = c.loop-at in sym (l.invariant ∙ ap (left _ _) (fields-end _ _ c.loop-at-test.false))
