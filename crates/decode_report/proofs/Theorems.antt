-- What `specs/Statements.antt` states.
use Rattle.std.specs.Prelude.{None, Option, Some}
use Prim.Native.Nat.{ℕ, ◌+◌, ◌≤◌, ◌<◌}
use mathlib.Core.Path.{◌≡◌, refl, sym, ap, ap₂, ◌∙◌}
use mathlib.Core.List.{List, [], ◌∷◌, ◌++◌, append-nil}
use mathlib.Core.Bool.{◌&&◌}
use native.Mathlib.Numerals.{add-one}
use native.Mathlib.Omega.{arith}
use borrow.Author.Tests.{leb-true, leb-false, le-leb, lt-leb}
use lib.Dec.{leb}
use lib.ListN.{length, length-set, length-replicate}
use lib.Seq.{take-suc-set, append_snoc}
use Rattle.buffer.specs.Stretch.{fits, stretch}
use Rattle.buffer.specs.Walk.{walk_for, walk}
use Rattle.varint.specs.Varint.{more, spelt, varint_at, of_stretch, of_length, delimited_at}
use Rattle.protobuf.specs.Write.{each}
use Rattle.protobuf.specs.Field.{numbered, held as bytes_held, spanned, content_at, of_tag, field_at, field_step, fields_from}
use Rattle.message.specs.Read.{wire_of, count_more, number_of, flag_of, place_of}
use Rattle.buffer.proofs.Tests.{split, both}
use Rattle.decimal.proofs.Laws.{push-more}
use Rattle.decimal.specs.Decimal.{all_digits, spelt as digits, digits_of, zero_or, id_of, id_then, ids_among}
use Rattle.decimal.specs.Ids.{no_ids, pushed, held}
use Rattle.decimal.specs.declared.Ids.{Ids}
use Rattle.tables.specs.Found.{Cell, none_held, none_found, placed, cell_with, each_in, held_with, found_with, found_in}
use Rattle.tables.specs.Statements.{counted}
use Rattle.tables.specs.Table.{contents, alike, value_of, values_of, held_tells, field_tells, all_readable, readable_to, readable, read_by}
use Rattle.tables.proofs.TableTells.{tells}
use Rattle.utf8.specs.Utf8.{behind, after, utf8_from, is_utf8}
use Rattle.csmp.specs.Tables.{report_subscribe}
use Rattle.csmp.specs.Values.{interval_of, interval_number}
use Rattle.csmp.proofs.NamedLaws.{interval-back}
use Rattle.decode_report.specs.Report.{with_id, with_entry, with_entries, few, report_of}
use Rattle.decode_report.specs.Statements.{ReadByTable, samples, Samples}

-- a list of ids that has a place keeps an id behind the others
kept : (ids : Ids) (r : Option ℕ) (rest : List ℕ) → length ids.list ≡ 32 → ids.count < 32
    → (length (with_id ids r).list ≡ 32) × ((with_id ids r).count ≤ ids.count + 1) × (held (with_id ids r) ++ rest ≡ held ids ++ id_then r rest)
unfolding with_id id_then
kept ids (Some i) rest l h =
    rw (push-more ids i h) (
      length-set ids.list ids.count i ∙ l,
      omega arith,
      rw (add-one, take-suc-set ids.list ids.count i (omega arith)) (append_snoc (held ids) i rest),
    )
kept ids None rest l h = (l, omega arith, refl)

-- those of the texts left follow those that are held, where there is a place for each
listed-behind : (ts : List (List ℕ)) (ids : Ids) → length ids.list ≡ 32 → ids.count + length ts ≤ 32 → held (with_entries ids ts) ≡ held ids ++ ids_among ts
unfolding with_entries with_entry ids_among
listed-behind [] ids l h = sym (append-nil (held ids))
listed-behind (t ∷ ts) ids l h =
    let r = kept ids (id_of t) (ids_among ts) l (omega arith) in
    listed-behind ts (with_id ids (id_of t)) r.0 (omega arith) ∙ r.2

pub listed : (ts : List (List ℕ)) → length ts ≤ 32 → held (with_entries no_ids ts) ≡ ids_among ts
listed ts h = listed-behind ts no_ids (length-replicate {A = ℕ} 32 0) (omega arith)

-- a list of few entries, by how many were counted
few-by : (c : Cell) (n : ℕ) → c.count ≡ counted n → few c ≡ leb n 32
unfolding few
few-by c n e =
    split (leb n 32) (λ h. let k = leb-true n 32 h in le-leb c.count 32 (omega arith) ∙ sym h) (λ h. let k = leb-false n 32 h in lt-leb c.count 32 (omega arith) ∙ sym h)

pub report-read : ReadByTable
unfolding report_of
report-read v =
    let t = tells report_subscribe v in
    let f = found_in report_subscribe v in
    let r = read_by report_subscribe v in
    let e = ap (◌&&◌ (readable report_subscribe v)) (ap₂ ◌&&◌ (few-by f.1.0.0 _ t.1.0) (few-by f.1.1.1.0.0 _ t.1.1.1.0)) in
    record {
      reading = e;
      padding = refl;
      interval = interval-back _ ∙ t.0;
      ids = λ h. listed _ (leb-true _ 32 (both (leb (length r.1.0) 32) _ (both (readable report_subscribe v) _ (sym e ∙ h)).1).0);
    }

pub samples-read : Samples
unfolding samples each few behind after utf8_from is_utf8 held_tells field_tells all_readable readable_to readable report_of with_id with_entry with_entries interval_of interval_number contents alike value_of values_of read_by all_digits digits digits_of zero_or id_of pushed none_held none_found placed cell_with each_in held_with found_with found_in wire_of count_more number_of flag_of place_of numbered bytes_held spanned content_at of_tag field_at field_step fields_from more spelt varint_at of_stretch of_length delimited_at fits stretch walk_for walk
samples-read = refl
