-- What `specs/Written.antt` states.
use Rattle.std.specs.Prelude.{None, Some}
use Prim.Native.Nat.{ℕ, ◌^◌, ◌≤◌, ◌<◌}
use mathlib.Core.Path.{◌≡◌, refl, sym, ap, ◌∙◌}
use mathlib.Core.Bool.{true, false}
use mathlib.Core.List.{List, [], ◌∷◌, map, append-nil}
use native.Mathlib.Nat.{le_of_eq}
use native.Mathlib.Omega.{arith}
use borrow.Author.Tests.{le-leb}
use lib.ListN.{length, take, length-append, length-map, length-take}
use Rattle.decimal.proofs.Theorems.{round_trip as id-back}
use Rattle.decimal.specs.Decimal.{IsId, digits_before, decimal, id_then, ids_among}
use Rattle.decimal.specs.Ids.{held}
use Rattle.tables.proofs.Theorems.{round_trip as Fields-back}
use Rattle.tables.specs.Statements.{Formed, Small, Texts, RoundTripped}
use Rattle.protobuf.specs.Each.{Each}
use Rattle.tables.specs.Table.{Table, Values, written, write_by}
use Rattle.protobuf.specs.Write.{if_any, each, number_field, bytes_field}
use Rattle.tlv.proofs.Theorems.{round_trip as records-back}
use Rattle.tlv.specs.Record.{Tlv, record_bytes, payload}
use Rattle.tlv.specs.Statements.{Fitting, none as no_record, one as a-record}
use Rattle.varint.specs.Varint.{continued, spelling, varint, two, delimited}
use Rattle.csmp.proofs.Formed.{tlv-index-formed, session-formed, report-subscribe-formed, current-time-formed, group-formed, response-formed}
use Rattle.csmp.proofs.Formed.{load-response-formed, image-info-formed, every-formed}
use Rattle.protobuf.proofs.EachLaws.{each-so}
use Rattle.csmp.specs.Tables.{session, report_subscribe, every_table}
use Rattle.decode_report.specs.Report.{report_of}
use Rattle.csmp.proofs.NamedLaws.{interval-same}
use Rattle.roundtrip.specs.Written.{Samples, Back, Answered, WrittenBack, EveryMessage, OwnReaders}
use Rattle.decode.proofs.Theorems.{session-read}
use Rattle.decode_report.proofs.Theorems.{report-read}
use Rattle.csmp.specs.Values.{moment_number, interval_number}
use Rattle.encode.specs.Write.{index_record, session_record, report_record, time_record, group_record}
use Rattle.encode_image.specs.Write.{response_record, running_record, open_record, backup_record}
use Rattle.protobuf.proofs.SizeLaws.{number-most, bytes_most, number-if-most, bytes-if-most, take-most}
use Rattle.encode.proofs.TextLaws.{given-text, decimals-text}
use Rattle.encode.proofs.WriteLaws.{list-most}

pub samples : Samples
unfolding continued spelling varint two delimited number_field bytes_field if_any each written write_by digits_before decimal interval_number moment_number session_record response_record index_record report_record time_record running_record open_record
samples = refl

-- what is written by a table reads back
back : {k : ℕ} {T : Table} {v : Values T} {bytes : List ℕ} → k < 2 ^ 64 → Formed T → Small T v → Texts T v → length (write_by T v) < 2 ^ 64
    → bytes ≡ record_bytes k (write_by T v) → Back k T v bytes
unfolding payload
back {k} {T} {v} h formed small texts short e =
    let rs : List Tlv = record { kind = k; value = write_by T v; padded = false } ∷ [] in
    let f : Fitting rs = a-record h short no_record in
    let p = e ∙ sym (append-nil (record_bytes k (write_by T v))) in
    record {
      form = e;
      one = rw p (records-back.back rs f);
      whole = rw p (records-back.whole rs f);
      fields = (Fields-back T formed).whole v small texts short;
      unpadded = (Fields-back T formed).unpadded v small short;
      values = (Fields-back T formed).back v small short;
    }

-- a response with no load time, by its own table
answered : (k : ℕ) → k < 2 ^ 64 → Answered k
unfolding response_record moment_number write_by written if_any
answered k g h answer l a =
    back g response-formed (tt, (a, tt)) (tt, (tt, tt)) (simp length-append (omega (arith, bytes-if-most 1 32 h.given h.bytes (le_of_eq l), number-most 2 answer))) refl

-- ids that are written as texts are the ids among them
ids-back : (ids : List ℕ) → Each IsId ids → ids_among (map decimal ids) ≡ ids
unfolding ids_among id_then
ids-back [] h = refl
ids-back (id ∷ ids) h = rw (id-back.back id h.0) (ap (◌∷◌ id) (ids-back ids h.1))

pub written_back : WrittenBack
unfolding index_record session_record report_record time_record group_record response_record running_record open_record backup_record write_by written if_any each moment_number
written_back =
    record {
      index = λ i l h. back (omega arith) tlv-index-formed (tt, tt) (decimals-text (take i.count i.list) h, tt) (simp length-append (omega (arith, list-most 1 68 i.count i.list l))) refl;
      session_id = λ s l h. back (omega arith) session-formed (tt, tt) (h, tt) (simp length-append (omega (arith, bytes_most 1 64 (take s.len s.bytes) (take-most s.len 64 s.bytes l)))) refl;
      report = λ i ids a l h. back (omega arith) report-subscribe-formed (a, (tt, (tt, (tt, tt)))) (tt, (decimals-text (held ids) h, (tt, (tt, tt))))
          (simp length-append (omega (arith, number-if-most 1 (interval_number i), list-most 2 32 ids.count ids.list l))) refl;
      time = λ p a. back (omega arith) current-time-formed (a, (tt, (tt, tt))) (tt, (tt, (tt, tt))) (simp length-append (omega (arith, number-most 1 p.0))) refl;
      group_info = λ kind id a b. back (omega arith) group-formed (a, (b, tt)) (tt, (tt, tt)) (simp length-append (omega (arith, number-most 1 kind, number-most 2 id))) refl;
      transferred = answered 71 (omega arith);
      loaded = λ h answer t l a b. back (omega arith) load-response-formed (tt, (a, (b, tt))) (tt, (tt, (tt, tt)))
          (simp length-append (omega (arith, bytes-if-most 1 32 h.given h.bytes (le_of_eq l), number-most 2 answer, number-if-most 3 (moment_number t)))) refl;
      cancelled = answered 73 (omega arith);
      backed_up = answered 74 (omega arith);
      running = λ hash l. back (omega arith) image-info-formed (omega arith) (tt, (tt, (tt, (tt, (tt, (tt, (tt, (tt, (tt, (tt, (tt, (tt, tt))))))))))))
          (simp length-append (omega (arith, number-most 1 0, bytes_most 2 32 hash (le_of_eq l), number-most 9 1))) refl;
      opened = λ i n t h x y a. back (omega arith) image-info-formed (omega arith, (tt, (tt, (tt, (h.size, (h.block, (tt, (tt, (tt, (a, (tt, (tt, tt))))))))))))
          (tt, (tt, (given-text i.name.given _ x, (given-text i.version.given _ y, (tt, (tt, (tt, (tt, (tt, (tt, (tt, (tt, tt))))))))))))
          (simp length-append (omega (
            arith,
            number-most 1 1,
            bytes_most 2 32 i.hash (le_of_eq h.hash),
            bytes-if-most 3 128 i.name.given (take i.name.len i.name.bytes) (take-most i.name.len 128 i.name.bytes h.name),
            bytes-if-most 4 32 i.version.given (take i.version.len i.version.bytes) (take-most i.version.len 32 i.version.bytes h.version),
            number-most 5 i.size,
            number-most 6 i.block_size,
            bytes_most 7 128 (take n i.bitmap) (take-most n 128 i.bitmap h.bitmap),
            number-if-most 10 (moment_number t),
          ))) refl;
      backup = λ hash t l a. back (omega arith) image-info-formed (omega arith, (tt, (tt, (tt, (tt, (tt, (tt, (tt, (tt, (a, (tt, (tt, tt)))))))))))) (tt, (tt, (tt, (tt, (tt, (tt, (tt, (tt, (tt, (tt, (tt, (tt, tt))))))))))))
          (simp length-append (omega (arith, number-most 1 2, bytes_most 2 32 hash (le_of_eq l), number-if-most 10 (moment_number t)))) refl;
      ids = ids-back;
    }

-- every message, by the round trip of tables
pub every-message : EveryMessage
every-message = each-so Formed RoundTripped Fields-back every_table every-formed

texts-few : (n : ℕ) (list : List ℕ) → length list ≡ 32 → length (map decimal (take n list)) ≤ 32
texts-few n list h = let x = length-take n list in simp length-map (omega arith)

pub own-readers : OwnReaders
own-readers =
    record {
      session_id = λ s l h.
          let b = written_back.session_id s l h in
          let v = write_by session (Some (take s.len s.bytes), tt) in
          let r = session-read v in
          let e = ap (λ (x : Values session). x.0) b.values in
          let k = length-take s.len s.bytes in
          (b.form, rw (r.reading, b.fields, e, le-leb (length (take s.len s.bytes)) 64 (omega arith)), r.id ∙ e);
      report = λ i ids a l c.
          let x = written_back.report i ids a l c in
          let v = write_by report_subscribe (interval_number i, (map decimal (held ids), (None, ([], tt)))) in
          let r = report-read v in
          let p = ap (λ (y : Values report_subscribe). y.1.0) x.values in
          let q = ap (λ (y : Values report_subscribe). y.1.1.1.0) x.values in
          let z : (report_of v).reading.readable ≡ true =
          rw (r.reading, x.fields, p, q, le-leb (length (map decimal (held ids))) 32 (texts-few ids.count ids.list l)) in (
            x.form,
            z,
            interval-same _ i (r.interval ∙ ap (λ (y : Values report_subscribe). y.0) x.values),
            r.ids z ∙ ap ids_among p ∙ ids-back (held ids) c,
          );
    }
