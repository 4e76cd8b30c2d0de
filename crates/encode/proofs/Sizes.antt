-- At most how many bytes the records take that the agent writes of itself, by the rows of their tables.
use Rattle.std.specs.Prelude.{Option}
use Prim.Native.Nat.{ℕ, ◌+◌, ◌*◌, ◌≤◌, ◌<◌}
use mathlib.Core.Path.{◌≡◌}
use mathlib.Core.List.{List, [], ◌∷◌, map}
use native.Mathlib.Omega.{arith}
use lib.ListN.{length, take, length-append}
use Rattle.decimal.specs.Decimal.{decimal}
use Rattle.decimal.specs.declared.Ids.{Ids}
use Rattle.protobuf.specs.Write.{bytes_field, each}
use Rattle.protobuf.proofs.SizeLaws.{take-most}
use Rattle.schedule.specs.declared.Point.{Point}
use Rattle.tables.specs.Table.{strings, written}
use Rattle.tables.proofs.TableSizes.{stop, field, delimited-most, number, no_number, no-string, no-strings}
use Rattle.varint.proofs.Laws.{varint-1, delimited-length}
use Rattle.encode.specs.Write.{report_record, time_record, group_record}
use Rattle.encode.proofs.WriteLaws.{decimal-most}
use Rattle.schedule.specs.declared.Length.{Length}

-- a list of ids as texts: each has a tag, a length and at most ten digits
module _ (n : ℕ) (tag : n < 16) where
  id-most : (id : ℕ) → length (bytes_field n (decimal id)) ≤ 12
  unfolding bytes_field
  id-most id =
      let h = decimal-most id in
      omega (arith, delimited-length (n * 8 + 2) (decimal id), varint-1 (n * 8 + 2) (omega arith), varint-1 (length (decimal id)) (omega arith))

  ids-length : (list : List ℕ) → length (each (bytes_field n) (map decimal list)) ≤ 12 * length list
  unfolding each
  ids-length [] = omega arith
  ids-length (id ∷ list) =
      let h : length (each (bytes_field n) (map decimal list)) ≤ 12 * length list = ids-length list in
      omega (arith, length-append (bytes_field n (decimal id)) (each (bytes_field n) (map decimal list)), id-most id)

  ids : (k m : ℕ) (list : List ℕ) → length list ≡ k → length (written strings n (map decimal (take m list))) ≤ 12 * k
  unfolding written
  ids k m list h = let g = ids-length (take m list) in omega (arith, take-most m k list h)

pub report-most : (i : Option Length) (a : Ids) → length a.list ≡ 32 → length (report_record i a) ≤ 398
unfolding report_record
report-most i a h =
    delimited-most 13
    (field (number 1 (omega arith) _) (field (ids 2 (omega arith) 32 a.count a.list h) (field (no_number 3) (field (no-strings 4) stop))))
    (omega arith)
    (omega arith)

pub time-most : (p : Point) → length (time_record p) ≤ 14
unfolding time_record
time-most p = delimited-most 18 (field (number 1 (omega arith) _) (field (no-string 2) (field (no_number 3) stop))) (omega arith) (omega arith)

pub group-most : (kind id : ℕ) → length (group_record kind id) ≤ 25
unfolding group_record
group-most kind id =
    delimited-most 58 (field (number 1 (omega arith) _) (field (number 2 (omega arith) _) stop)) (omega arith) (omega arith)
