-- The agent's own records and the ids of its index are written from text.
use Rattle.std.specs.Prelude.{None, Option, Some}
use Prim.Native.Nat.{ℕ, zero, suc, ◌+◌, ◌*◌, ◌^◌, ◌≤◌, ◌<◌}
use mathlib.Core.Path.{refl}
use mathlib.Core.List.{List, [], ◌∷◌, map}
use mathlib.Core.Bool.{Bool, true, ◌&&◌}
use native.Mathlib.Nat.{le_of_eq}
use native.Mathlib.Omega.{arith}
use lib.Dec.{leb}
use lib.ListN.{length, take, length-append, length-take}
use lib.Seq.{take-length}
use Rattle.buffer.proofs.Tests.{pick-both, both}
use Rattle.csmp.specs.Values.{moment_number, interval_number}
use Rattle.csmp.specs.declared.Image.{Image}
use Rattle.decimal.specs.Decimal.{IsId, decimal}
use Rattle.decimal.specs.Ids.{held}
use Rattle.encode.specs.Write.{report_record, time_record, group_record}
use Rattle.encode.proofs.Sizes.{time-most, group-most}
use Rattle.encode.proofs.TextLaws.{given-text, decimals-text}
use Rattle.encode.proofs.WriteLaws.{list-most}
use Rattle.encode_image.specs.Write.{image_value, running_record, open_record, backup_record}
use Rattle.encode_image.proofs.Sizes.{running-most, backup-most}
use Rattle.images.specs.Images.{load_time_of, open_shown, backup_shown, images_shown}
use Rattle.index.specs.Index.{visible, lower, nearer, least_of, least_in, next_id, listed_with, ids_for, ids_there}
use Rattle.index.proofs.Laws.{visible-fits}
use Rattle.own.specs.Own.{report_shown, groups_shown, own_records}
use Rattle.protobuf.specs.Each.{IfAny, Each}
use Rattle.protobuf.specs.Given.{if_given}
use Rattle.protobuf.specs.Write.{bytes_field, if_any, each}
use Rattle.protobuf.proofs.SizeLaws.{number-most, bytes_most, number-if-most, bytes-if-most, take-most}
use Rattle.schedule.specs.declared.Point.{Point}
use Rattle.state.specs.Groups.{held_pairs}
use Rattle.state.specs.declared.Assigned.{Assigned}
use Rattle.state.specs.declared.Device.{Device}
use Rattle.state.specs.declared.Images.{Images}
use Rattle.state.specs.declared.Pair.{Pair}
use Rattle.state.specs.declared.State.{State}
use Rattle.tables.specs.Table.{written, write_by}
use Rattle.tlv.specs.Record.{records_from, record_bytes}
use Rattle.tlv.specs.declared.Record.{Record}
use Rattle.utf8.specs.Utf8.{IsText}
use Rattle.varint.proofs.Laws.{delimited-length}
use Rattle.calls.specs.Made.{OpenSized, ImagesSized, AssignedSized, Sized}
use Rattle.calls.proofs.Copied.{Own, empty, single, joined}

-- a value is shorter than its record
shorter : (kind : ℕ) (v : List ℕ) (n : ℕ) → length (record_bytes kind v) ≤ n → n < 2 ^ 64 → length v < 2 ^ 64
shorter kind v n h l = omega (arith, delimited-length kind v)

-- the first n of a list are at most n
first-most : (n k : ℕ) (l : List ℕ) → n ≤ k → length (take n l) ≤ k
first-most n k l h = omega (arith, length-take n l)

-- ids as texts take at most 30 bytes each
ids-most : (ids : List ℕ) → length (each (bytes_field 2) (map decimal ids)) ≤ 30 * length ids
ids-most ids = rw (take-length ids) at (list-most 2 (length ids) (length ids) ids refl)

-- 13
pub report-own : (a : Assigned) → AssignedSized a → Own (report_shown a)
unfolding report_shown report_record write_by written if_any each
report-own a k =
    let ids = held a.ids in
    let interval = (interval_number a.interval) in
    let few = first-most a.ids.count 32 a.ids.list k.ids in
    pick-both Own a.reporting _ _
    (λ _. single 13 (interval, (map decimal ids, (None, ([], tt)))) (omega arith) (tt, (decimals-text ids k.each, (tt, (tt, tt))))
    (simp length-append (omega (arith, number-if-most 1 interval, ids-most ids))))
    (λ _. empty)

-- 18
pub time-own : (p : Point) → Own (time_record p)
unfolding time_record
time-own p = single 18 (Some p.0, (None, (None, tt))) (omega arith) (tt, (tt, (tt, tt))) (shorter 18 _ 14 (time-most p) (omega arith))

-- 58
pub groups-own : (ps : List Pair) → Own (groups_shown ps)
unfolding groups_shown group_record
groups-own [] = empty
groups-own (p ∷ ps) =
    joined (single 58 (Some p.kind, (Some p.id, tt)) (omega arith) (tt, (tt, tt)) (shorter 58 _ 25 (group-most p.kind p.id) (omega arith)))
    (groups-own ps)

-- 75: the name and the version are its strings
image-own : (index : ℕ) (hash : List ℕ) (name version : Option (List ℕ)) (size block : Option ℕ) (bitmap : Option (List ℕ)) (running : Option Bool)
    (time : Option Point) → IfAny IsText name → IfAny IsText version → length (image_value index hash name version size block bitmap running time) < 2 ^ 64
    → Own (record_bytes 75 (image_value index hash name version size block bitmap running time))
image-own index hash name version size block bitmap running time x y l =
    single 75
    (Some index, (Some hash, (name, (version, (size, (block, (bitmap, (None, (running, (moment_number time, (None, (None, tt))))))))))))
    (omega arith) (tt, (tt, (x, (y, (tt, (tt, (tt, (tt, (tt, (tt, (tt, (tt, tt)))))))))))) l

open_own : (d : Device) (i : Image) (n : ℕ) (time : Option Point) → OpenSized d i → IsText (take i.name.len i.name.bytes)
    → IsText (take i.version.len i.version.bytes) → Own (open_record i n time)
unfolding open_record write_by written if_any
open_own d i n time k name version =
    let x = take i.name.len i.name.bytes in
    let y = take i.version.len i.version.bytes in
    let bitmap = take n i.bitmap in
    image-own 1 i.hash (if_given i.name.given x) (if_given i.version.given y) (Some i.size) (Some i.block_size) (Some bitmap) None time
    (given-text i.name.given x name) (given-text i.version.given y version)
    (simp length-append (omega (
      arith,
      number-most 1 1,
      bytes_most 2 32 i.hash (le_of_eq k.hash),
      bytes-if-most 3 128 i.name.given x (first-most i.name.len 128 i.name.bytes k.name),
      bytes-if-most 4 32 i.version.given y (first-most i.version.len 32 i.version.bytes k.version),
      number-most 5 i.size,
      number-most 6 i.block_size,
      bytes_most 7 128 bitmap (take-most n 128 i.bitmap k.bitmap),
      number-if-most 10 (moment_number time),
    )))

-- of a closed image nothing is shown
images-own : (d : Device) (i : Images) → ImagesSized d i → Own (images_shown i)
unfolding images_shown open_shown backup_shown running_record backup_record
images-own d i k =
    let time = load_time_of i.pending i.backup.bytes in
    joined
    (image-own 0 i.running None None None None None (Some true) None tt tt
    (shorter 75 _ 71 (running-most i.running k.running) (omega arith)))
    (joined
    (pick-both Own i.«open» _ _ (λ e. open_own d i.image _ _ (k.opened e) k.name k.version) (λ _. empty))
    (pick-both Own i.backup.given _ _
    (λ _. image-own 2 i.backup.bytes None None None None None None time tt tt
    (shorter 75 _ 60 (backup-most i.backup.bytes k.backup time) (omega arith)))
    (λ _. empty)))

pub records-own : (s : State) (time : Point) → Sized s → Own (own_records s time)
unfolding own_records
records-own s time k =
    joined (report-own s.assigned k.assigned)
    (joined (time-own time) (joined (groups-own (held_pairs s.assigned.groups)) (images-own s.device s.images k.images)))

-- 1: what is there are ids, so their decimals are text
abbrev FoundId : Option ℕ → Type 0
FoundId n = IfAny IsId n

module _ (from : ℕ) where
  lower-id : (found : Option ℕ) (k : ℕ) → IsId k → FoundId found → FoundId (lower found k)
  unfolding lower
  lower-id None k h g = h
  lower-id (Some n) k h g = pick-both FoundId (leb n k) (Some n) (Some k) (λ _. g) (λ _. h)

  nearer-id : (found : Option ℕ) (k : ℕ) → FoundId found → FoundId (nearer from found k)
  unfolding nearer
  nearer-id found k g =
      pick-both FoundId (leb from k && visible k) (lower found k) found
      (λ e. lower-id found k (let h = visible-fits k (both (leb from k) (visible k) e).1 in omega arith) g) (λ _. g)

  least-id : (rs : List Record) (found : Option ℕ) → FoundId found → FoundId (least_of from found rs)
  unfolding least_of
  least-id [] found g = g
  least-id (r ∷ rs) found g = least-id rs (nearer from found r.kind) (nearer-id found r.kind g)

  next-id : (store own : List ℕ) → FoundId (next_id store own from)
  unfolding next_id least_in
  next-id store own =
      least-id (records_from own 0).items (least_of from None (records_from store 0).items) (least-id (records_from store 0).items None tt)

ids-for : (left : ℕ) (store own : List ℕ) (from : ℕ) → Each IsId (ids_for left store own from)
unfolding ids_for
ids-for zero store own from = tt
ids-for (suc left) store own from = go (next_id store own from) (next-id from store own) (λ (id : ℕ). ids-for left store own (id + 1))
  where
    go : (n : Option ℕ) → FoundId n → ((id : ℕ) → Each IsId (ids_for left store own (id + 1))) → Each IsId (listed_with (ids_for left store own) n)
    go None h above = tt
    go (Some id) h above = (h, above id)

pub index-texts : (store own : List ℕ) → Each IsText (map decimal (ids_there store own))
unfolding ids_there
index-texts store own = decimals-text (ids_for 68 store own 0) (ids-for 68 store own 0)
