-- At most how many bytes the records about images take: answers, and images by the rows of their table.
use Rattle.std.specs.Prelude.{Option}
use Prim.Native.Nat.{ℕ, ◌≤◌, ◌<◌}
use mathlib.Core.Path.{◌≡◌}
use mathlib.Core.List.{List, [], ◌++◌}
use mathlib.Core.Bool.{Bool, true, false}
use native.Mathlib.Nat.{le_of_eq}
use native.Mathlib.Omega.{arith}
use lib.ListN.{length, length-append}
use Rattle.protobuf.specs.Given.{if_given}
use Rattle.protobuf.specs.Write.{number_field, bytes_field, if_any}
use Rattle.protobuf.proofs.SizeLaws.{take-most, answer-most}
use Rattle.tables.specs.Table.{written, write_by}
use Rattle.tables.proofs.TableSizes.{stop, field, delimited-most, number, flag, held, text-if, no_number, no_flag, no_bytes, no-string, no-message}
use Rattle.varint.proofs.Laws.{varint-1, delimited-length}
use Rattle.csmp.specs.Values.{moment_number}
use Rattle.csmp.specs.declared.Hash.{Hash}
use Rattle.csmp.specs.declared.Image.{Image}
use Rattle.encode_image.specs.Write.{response_record, running_record, open_record, backup_record}
use Rattle.schedule.specs.declared.Point.{Point}

-- at most how many bytes a response takes
hash-most : (given : Bool) (bs : List ℕ) → length bs ≡ 32 → length (if_any (bytes_field 1) (if_given given bs)) ≤ 34
unfolding if_any bytes_field
hash-most true bs h = omega (arith, delimited-length 10 bs, varint-1 10 (omega arith), varint-1 (length bs) (omega arith))
hash-most false bs h = omega arith

abbrev pub time_field : Option Point → List ℕ
time_field t = if_any (number_field 3) (moment_number t)

pub response-record-most : (kind : ℕ) (h : Hash) (answer : ℕ) (time : Option Point) → kind < 128 → length h.bytes ≡ 32 → answer < 128
    → length (time_field time) ≤ 6 → length (response_record kind h answer time) ≤ 44
unfolding response_record write_by written if_any
response-record-most kind h answer time k l a t =
    let x = if_any (bytes_field 1) (if_given h.given h.bytes) in
    let y = number_field 2 answer in
    let z = time_field time in
    let e : length (x ++ (y ++ (z ++ []))) ≤ 42 =
    omega (arith, length-append x (y ++ (z ++ [])), length-append y (z ++ []), length-append z [], hash-most h.given h.bytes l, answer-most 2 answer (omega arith) a) in
    omega (arith, delimited-length kind (x ++ (y ++ (z ++ []))), varint-1 kind k, varint-1 (length (x ++ (y ++ (z ++ [])))) (omega arith))

module _ (hash : List ℕ) (k : length hash ≡ 32) where
  pub running-most : length (running_record hash) ≤ 71
  unfolding running_record
  running-most =
      delimited-most 75
      (field (number 1 (omega arith) _)
      (field (held 2 (omega arith) 32 (omega arith) hash (le_of_eq k))
      (field (no-string 3)
      (field (no-string 4)
      (field (no_number 5)
      (field (no_number 6)
      (field (no_bytes 7)
      (field (no_flag 8)
      (field (flag 9 (omega arith) _)
      (field (number 10 (omega arith) _)
      (field (no-message 11 _)
      (field (no_number 12)
      stop))))))))))))
      (omega arith)
      (omega arith)

  pub backup-most : (time : Option Point) → length (backup_record hash time) ≤ 60
  unfolding backup_record
  backup-most time =
      delimited-most 75
      (field (number 1 (omega arith) _)
      (field (held 2 (omega arith) 32 (omega arith) hash (le_of_eq k))
      (field (no-string 3)
      (field (no-string 4)
      (field (no_number 5)
      (field (no_number 6)
      (field (no_bytes 7)
      (field (no_flag 8)
      (field (no_flag 9)
      (field (number 10 (omega arith) _)
      (field (no-message 11 _)
      (field (no_number 12)
      stop))))))))))))
      (omega arith)
      (omega arith)

pub open-most : (i : Image) (n : ℕ) (time : Option Point) → length i.hash ≡ 32 → length i.name.bytes ≡ 128 → length i.version.bytes ≡ 32
    → length i.bitmap ≡ 128 → length (open_record i n time) ≤ 379
unfolding open_record
open-most i n time h k l m =
    delimited-most 75
    (field (number 1 (omega arith) _)
    (field (held 2 (omega arith) 32 (omega arith) i.hash (le_of_eq h))
    (field (text-if 3 (omega arith) 128 (omega arith) i.name.len i.name.given i.name.bytes k)
    (field (text-if 4 (omega arith) 32 (omega arith) i.version.len i.version.given i.version.bytes l)
    (field (number 5 (omega arith) _)
    (field (number 6 (omega arith) _)
    (field (held 7 (omega arith) 128 (omega arith) _ (take-most n 128 i.bitmap m))
    (field (no_flag 8)
    (field (no_flag 9)
    (field (number 10 (omega arith) _)
    (field (no-message 11 _)
    (field (no_number 12)
    stop))))))))))))
    (omega arith)
    (omega arith)
