-- Laws of the store's check, one step each.
use Rattle.std.specs.Prelude.{None, Some}
use Prim.Native.Nat.{ℕ, ◌+◌, ◌≤◌, ◌<◌}
use mathlib.Core.Path.{◌≡◌, refl}
use mathlib.Core.List.{List}
use mathlib.Core.Bool.{Bool, true, false, ◌&&◌}
use native.Mathlib.Omega.{arith}
use borrow.Author.Tests.{le-leb, lt-leb}
use lib.Dec.{eqb}
use lib.ListN.{length}
use Rattle.buffer.specs.Pick.{pick}
use Rattle.tlv.specs.Record.{record_at, records_from}
use Rattle.tlv.specs.declared.Record.{Record}
use Rattle.tlv.proofs.Laws.{record-inside, records-end, records-more, records-unreadable}
use Rattle.store.specs.Store.{noted, seen_of, fine, nothing_seen, acceptable}
use Rattle.store.specs.declared.Seen.{Seen}

-- one record more is one of each at most
pub noted-records : (s : Seen) (k : ℕ) → (noted s k).records ≡ s.records + 1
unfolding noted
noted-records s k = refl

pub noted-ids : (s : Seen) (k : ℕ) → (noted s k).ids ≤ s.ids + 1
unfolding noted
noted-ids s k = go (eqb k 2)
  where
    go : (t : Bool) → pick t (s.ids + 1) s.ids ≤ s.ids + 1
    go true = omega arith
    go false = omega arith

-- whether the records from a position on can be read, and are fine with those seen before it
unfoldable pub accepted_from : List ℕ → ℕ → Seen → Bool
accepted_from s at seen = (records_from s at).whole && fine (seen_of seen (records_from s at).items)

module _ (s : List ℕ) where
  pub accepted-large : 4096 < length s → acceptable s ≡ false
  unfolding acceptable
  accepted-large h = rw (lt-leb (length s) 4096 h)

  pub accepted-start : length s ≤ 4096 → acceptable s ≡ accepted_from s 0 nothing_seen
  unfolding acceptable accepted_from
  accepted-start h = rw (le-leb (length s) 4096 h)

  module _ (at : ℕ) (seen : Seen) where
    pub accepted-end : length s ≤ at → accepted_from s at seen ≡ fine seen
    unfolding accepted_from seen_of
    accepted-end h = rw (records-end s at h)

    pub accepted-unreadable : at < length s → record_at s at ≡ None → accepted_from s at seen ≡ false
    unfolding accepted_from
    accepted-unreadable h e = rw (records-unreadable s at h e)

    pub accepted-next : (r : Record) → record_at s at ≡ Some r → accepted_from s at seen ≡ accepted_from s r.end (noted seen r.kind)
    unfolding accepted_from seen_of
    accepted-next r e = rw (records-more s at r e)

-- the walk, step by step
pub ruleset accept_steps = (record-inside, noted-records, noted-ids, accepted-large, accepted-start, accepted-unreadable, accepted-next, accepted-end)
