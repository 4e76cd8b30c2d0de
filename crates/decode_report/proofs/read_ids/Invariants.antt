-- `decode_report::read_ids` meets its contract: the ids are those of the fields left, behind those found before.
use Prim.Native.Nat.{ℕ, ◌-◌}
use mathlib.Core.Path.{◌≡◌}
use mathlib.Core.List.{List, map}
use lib.ListN.{length}
use Rattle.buffer.specs.Walk.{Walked}
use Rattle.decimal.specs.declared.Ids.{Ids}
use Rattle.protobuf.specs.Field.{fields_from}
use Rattle.protobuf.specs.declared.Field.{Field}
use Rattle.decode_report.specs.Report.{with_entries, listed_in}
use Rattle.tables.specs.Table.{strings, content_of, value_of}
use Rattle.decode_report.proofs.read_ids.Given as goal

-- the ids of the fields left, behind those found before
abbrev pub left : List ℕ → Ids → Walked Field → Ids
left v ids x = with_entries ids (value_of strings 2 (map (content_of v) x.items))

abbrev pub invariant-loop-at : goal.invariant-loop-at
invariant-loop-at l = listed_in l.v ≡ left l.v l.ids (fields_from l.v l.at)

abbrev pub decreases-loop-at : goal.decreases-loop-at
decreases-loop-at l = length l.v - l.at
