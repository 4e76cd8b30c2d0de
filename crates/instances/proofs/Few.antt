-- An acceptable store has at most 64 records.
use Prim.Native.Nat.{ℕ, ◌+◌, ◌≤◌}
use mathlib.Core.Path.{◌≡◌}
use mathlib.Core.List.{List, [], ◌∷◌}
use mathlib.Core.Bool.{true}
use native.Mathlib.Omega.{arith}
use borrow.Author.Tests.{leb-true}
use lib.Dec.{leb}
use lib.ListN.{length}
use Rattle.buffer.proofs.Tests.{both}
use Rattle.store.specs.Store.{noted, seen_of, fine, nothing_seen, acceptable}
use Rattle.store.specs.declared.Seen.{Seen}
use Rattle.tlv.specs.Record.{records_from}
use Rattle.tlv.specs.declared.Record.{Record}

-- as many records are seen as there are
seen-count : (s : Seen) (rs : List Record) → (seen_of s rs).records ≡ s.records + length rs
unfolding seen_of noted
seen-count s [] = omega arith
seen-count s (r ∷ rs) = omega (arith, seen-count (noted s r.kind) rs)

pub stored-few : (store : List ℕ) → acceptable store ≡ true → length (records_from store 0).items ≤ 64
unfolding acceptable fine
stored-few store h =
    let rs = (records_from store 0).items in
    let seen = seen_of nothing_seen rs in
    let f = (both (records_from store 0).whole _ (both (leb (length store) 4096) _ h).1).1 in
    omega (arith, seen-count nothing_seen rs, leb-true seen.records 64 (both (leb seen.records 64) _ f).0)
