-- An acceptable store holds none of the records that the agent writes.
use Prim.Native.Nat.{ℕ, ◌≤◌}
use mathlib.Core.Path.{◌≡◌}
use mathlib.Core.List.{List, [], ◌∷◌}
use mathlib.Core.Bool.{true, false, true≢false, ◌&&◌}
use native.Mathlib.Omega.{arith}
use borrow.Author.Tests.{le-leb, ne_eqb, not-true}
use lib.Dec.{eqb, leb}
use lib.ListN.{length}
use Rattle.buffer.specs.Listed.{listed}
use Rattle.buffer.proofs.Tests.{both, neither}
use Rattle.protobuf.specs.Each.{Each}
use Rattle.protobuf.proofs.EachLaws.{each-so, each_over}
use Rattle.store.specs.Store.{reserved, noted, seen_of, fine, nothing_seen, acceptable}
use Rattle.store.specs.declared.Seen.{Seen}
use Rattle.tables.specs.Table.{end}
use Rattle.tlv.specs.Record.{Tlv, valued, records_from, records}
use Rattle.tlv.specs.declared.Record.{Record}
use Rattle.calls.specs.Text.{table_of}

abbrev Free : Record → Type 0
Free r = reserved r.kind ≡ false

-- none of the records is reserved, where none was seen
seen-free : (s : Seen) (rs : List Record) → (seen_of s rs).reserved ≡ false → (s.reserved ≡ false) × Each Free rs
unfolding seen_of noted
seen-free s [] h = (h, tt)
seen-free s (r ∷ rs) h =
    let t = seen-free (noted s r.kind) rs h in
    let u = neither s.reserved (reserved r.kind) t.0 in
    (u.0, (u.1, t.1))

-- a type from 65 to 77 is reserved
among : (k n : ℕ) → (leb 65 k && leb k 77) ≡ false → 65 ≤ n → n ≤ 77 → eqb k n ≡ false
among k n h p q = ne_eqb k n (λ e. absurd (true≢false (rw (e, le-leb 65 n p, le-leb n 77 q) at h)))

free_other : (k : ℕ) → reserved k ≡ false → table_of k ≡ end
unfolding reserved listed
free_other k h =
    let a = neither _ (leb 65 k && leb k 77) h in
    let b = neither (eqb k 1) _ a.0 in
    let c = neither (eqb k 7) _ (neither (eqb k 6) _ b.1).1 in
    let d = neither (eqb k 13) _ (neither (eqb k 8) _ c.1).1 in
    let e = neither (eqb k 18) _ d.1 in
    let f = neither (eqb k 58) _ (neither (eqb k 57) _ (neither (eqb k 55) _ e.1).1).1 in
    rw (
      b.0,
      c.0,
      d.0,
      e.0,
      f.0,
      among k 72 a.1 (omega arith) (omega arith),
      among k 75 a.1 (omega arith) (omega arith),
      among k 71 a.1 (omega arith) (omega arith),
      among k 73 a.1 (omega arith) (omega arith),
      among k 74 a.1 (omega arith) (omega arith),
    )

pub stored_other : (store : List ℕ) → acceptable store ≡ true → Each (λ (t : Tlv). table_of t.kind ≡ end) (records store)
unfolding acceptable fine records
stored_other store h =
    let rs = (records_from store 0).items in
    let seen = seen_of nothing_seen rs in
    let f = (both (records_from store 0).whole _ (both (leb (length store) 4096) _ h).1).1 in
    let free = not-true seen.reserved (both (leb seen.ids 1) _ (both (leb seen.records 64) _ f).1).1 in
    each_over (λ (t : Tlv). table_of t.kind ≡ end) (valued store) rs
    (each-so Free (λ (r : Record). table_of r.kind ≡ end) (λ r. free_other r.kind) rs (seen-free nothing_seen rs free).1)
