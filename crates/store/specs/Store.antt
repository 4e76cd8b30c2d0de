-- The host's store, document 01, "Sizes" and refusal 4.
use Rattle.std.specs.Prelude.{ℕ, ◌+◌, List, [], ◌∷◌, Bool, false, not, ◌&&◌, ◌||◌, length, eqb, leb}
use Rattle.buffer.specs.Listed.{listed}
use Rattle.buffer.specs.Pick.{pick}
use Rattle.tlv.specs.Record.{records_from}
use Rattle.tlv.specs.declared.Record.{Record}
use Rattle.store.specs.declared.Seen.{Seen}

-- TlvIndex's id, or one of 6, 7, 8, 13, 18, 55, 57, 58, 65 to 77
unfoldable pub reserved : ℕ → Bool
reserved k = listed k (1 ∷ 6 ∷ 7 ∷ 8 ∷ 13 ∷ 18 ∷ 55 ∷ 57 ∷ 58 ∷ []) || (leb 65 k && leb k 77)

-- the records of a store, one by one: how many, how many DeviceIDs (type 2), whether one is reserved
unfoldable pub noted : Seen → ℕ → Seen
noted s k =
    record {
      records = s.records + 1;
      ids = pick (eqb k 2) (s.ids + 1) s.ids;
      reserved = s.reserved || reserved k;
    }

unfoldable pub seen_of : Seen → List Record → Seen
seen_of s [] = s
seen_of s (r ∷ rs) = seen_of (noted s r.kind) rs

-- at most 64 records, DeviceID not twice, none reserved
unfoldable pub fine : Seen → Bool
fine s = leb s.records 64 && (leb s.ids 1 && not s.reserved)

abbrev pub nothing_seen : Seen
nothing_seen = record { records = 0; ids = 0; reserved = false }

-- readable as records, and at most 4,096 bytes
unfoldable pub acceptable : List ℕ → Bool
acceptable s = leb (length s) 4096 && ((records_from s 0).whole && fine (seen_of nothing_seen (records_from s 0).items))
