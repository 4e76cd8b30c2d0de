-- The agent's own records, a stretch for each type.
use Rattle.std.specs.Prelude.{None, Option, Some}
use Prim.Native.Nat.{ℕ, ◌*◌, ◌^◌, ◌≤◌, ◌<◌}
use mathlib.Core.Path.{refl}
use mathlib.Core.List.{List, [], ◌∷◌, map}
use mathlib.Core.Bool.{Bool, true}
use native.Mathlib.Nat.{le_of_eq}
use native.Mathlib.Omega.{arith}
use lib.ListN.{length, take, length-append, length-take}
use lib.Seq.{take-length}
use Rattle.buffer.proofs.Tests.{pick-both}
use Rattle.copy.specs.Shown.{is_own}
use Rattle.csmp.specs.Values.{moment_number, interval_number}
use Rattle.csmp.specs.declared.Image.{Image}
use Rattle.decimal.specs.Decimal.{decimal}
use Rattle.decimal.specs.Ids.{held}
use Rattle.encode.specs.Write.{report_record, time_record, group_record}
use Rattle.encode.proofs.Sizes.{time-most, group-most}
use Rattle.encode.proofs.TextLaws.{given-text, decimals-text}
use Rattle.encode.proofs.WriteLaws.{list-most}
use Rattle.encode_image.specs.Write.{image_value, running_record, open_record, backup_record}
use Rattle.encode_image.proofs.Sizes.{running-most, backup-most}
use Rattle.images.specs.Images.{load_time_of, open_shown, backup_shown, images_shown}
use Rattle.own.specs.Own.{report_shown, groups_shown, own_records}
use Rattle.protobuf.specs.Each.{IfAny}
use Rattle.protobuf.specs.Given.{if_given}
use Rattle.protobuf.specs.Write.{bytes_field, if_any, each}
use Rattle.protobuf.proofs.SizeLaws.{number-most, bytes_most, number-if-most, bytes-if-most, take-most}
use Rattle.schedule.specs.declared.Point.{Point}
use Rattle.state.specs.Groups.{held_pairs}
use Rattle.state.specs.declared.Assigned.{Assigned}
use Rattle.state.specs.declared.Device.{Device}
use Rattle.state.specs.declared.Images.{Images}
use Rattle.state.specs.declared.Pair.{Pair}
use Rattle.state.specs.declared.State.{State}
use Rattle.tables.specs.Table.{written, write_by}
use Rattle.tlv.specs.Record.{record_bytes}
use Rattle.utf8.specs.Utf8.{IsText}
use Rattle.varint.proofs.Laws.{delimited-length}
use Rattle.calls.specs.Made.{OpenSized, ImagesSized, AssignedSized, Sized}
use Rattle.instances.proofs.Copied.{Own, empty, single, joined, Owns, last, ahead}

-- a value is shorter than its record
shorter : (kind : ℕ) (v : List ℕ) (n : ℕ) → length (record_bytes kind v) ≤ n → n < 2 ^ 64 → length v < 2 ^ 64
shorter kind v n h l = omega (arith, delimited-length kind v)

-- the first n of a list are at most n
first-most : (n k : ℕ) (l : List ℕ) → n ≤ k → length (take n l) ≤ k
first-most n k l h = omega (arith, length-take n l)

-- ids as texts take at most 30 bytes each
ids-most : (ids : List ℕ) → length (each (bytes_field 2) (map decimal ids)) ≤ 30 * length ids
ids-most ids = rw (take-length ids) at (list-most 2 (length ids) (length ids) ids refl)

-- 13
pub report-own : (a : Assigned) → AssignedSized a → Own 13 (report_shown a)
unfolding is_own report_shown report_record write_by written if_any each
report-own a k =
    let ids = held a.ids in
    let interval = (interval_number a.interval) in
    let few = first-most a.ids.count 32 a.ids.list k.ids in
    pick-both (Own 13) a.reporting _ _
    (λ _. single (interval, (map decimal ids, (None, ([], tt)))) refl (tt, (decimals-text ids k.each, (tt, (tt, tt))))
    (simp length-append (omega (arith, number-if-most 1 interval, ids-most ids))))
    (λ _. empty)

-- 18
pub time-own : (p : Point) → Own 18 (time_record p)
unfolding is_own time_record
time-own p = single (Some p.0, (None, (None, tt))) refl (tt, (tt, (tt, tt))) (shorter 18 _ 14 (time-most p) (omega arith))

-- 58
pub groups-own : (ps : List Pair) → Own 58 (groups_shown ps)
unfolding is_own groups_shown group_record
groups-own [] = empty
groups-own (p ∷ ps) =
    joined (single (Some p.kind, (Some p.id, tt)) refl (tt, (tt, tt)) (shorter 58 _ 25 (group-most p.kind p.id) (omega arith)))
    (groups-own ps)

-- 75: the name and the version are its strings
image-own : (index : ℕ) (hash : List ℕ) (name version : Option (List ℕ)) (size block : Option ℕ) (bitmap : Option (List ℕ)) (running : Option Bool)
    (time : Option Point) → IfAny IsText name → IfAny IsText version → length (image_value index hash name version size block bitmap running time) < 2 ^ 64
    → Own 75 (record_bytes 75 (image_value index hash name version size block bitmap running time))
unfolding is_own
image-own index hash name version size block bitmap running time x y l =
    single
    (Some index, (Some hash, (name, (version, (size, (block, (bitmap, (None, (running, (moment_number time, (None, (None, tt))))))))))))
    refl (tt, (tt, (x, (y, (tt, (tt, (tt, (tt, (tt, (tt, (tt, (tt, tt)))))))))))) l

open_own : (d : Device) (i : Image) (n : ℕ) (time : Option Point) → OpenSized d i → IsText (take i.name.len i.name.bytes)
    → IsText (take i.version.len i.version.bytes) → Own 75 (open_record i n time)
unfolding open_record write_by written if_any
open_own d i n time k name version =
    let x = take i.name.len i.name.bytes in
    let y = take i.version.len i.version.bytes in
    let bitmap = take n i.bitmap in
    image-own 1 i.hash (if_given i.name.given x) (if_given i.version.given y) (Some i.size) (Some i.block_size) (Some bitmap) None time
    (given-text i.name.given x name) (given-text i.version.given y version)
    (simp length-append (omega (
      arith,
      number-most 1 1,
      bytes_most 2 32 i.hash (le_of_eq k.hash),
      bytes-if-most 3 128 i.name.given x (first-most i.name.len 128 i.name.bytes k.name),
      bytes-if-most 4 32 i.version.given y (first-most i.version.len 32 i.version.bytes k.version),
      number-most 5 i.size,
      number-most 6 i.block_size,
      bytes_most 7 128 bitmap (take-most n 128 i.bitmap k.bitmap),
      number-if-most 10 (moment_number time),
    )))

-- of a closed image nothing is shown
pub images-own : (d : Device) (i : Images) → ImagesSized d i → Own 75 (images_shown i)
unfolding images_shown open_shown backup_shown running_record backup_record
images-own d i k =
    let time = load_time_of i.pending i.backup.bytes in
    joined
    (image-own 0 i.running None None None None None (Some true) None tt tt
    (shorter 75 _ 71 (running-most i.running k.running) (omega arith)))
    (joined
    (pick-both (Own 75) i.«open» _ _ (λ e. open_own d i.image _ _ (k.opened e) k.name k.version) (λ _. empty))
    (pick-both (Own 75) i.backup.given _ _
    (λ _. image-own 2 i.backup.bytes None None None None None None time tt tt
    (shorter 75 _ 60 (backup-most i.backup.bytes k.backup time) (omega arith)))
    (λ _. empty)))

unfoldable pub records-own : (s : State) (time : Point) → Sized s → Owns (own_records s time)
unfolding own_records
records-own s time k =
    ahead 13 (report-own s.assigned k.assigned)
    (ahead 18 (time-own time)
    (ahead 58 (groups-own (held_pairs s.assigned.groups)) (last 75 (images-own s.device s.images k.images))))
