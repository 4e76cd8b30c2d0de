-- Records in the written form come out unchanged, and what is written is in that form.
use Rattle.std.specs.Prelude.{None, Option, Some}
use Prim.Native.Nat.{ℕ}
use mathlib.Core.Path.{◌≡◌, refl, sym, ap, ◌∙◌}
use mathlib.Core.List.{List, [], ◌∷◌, ◌++◌, map}
use mathlib.Core.Bool.{Bool, true, false, ◌||◌, true≢false}
use native.Mathlib.Omega.{arith}
use borrow.Author.Tests.{not-true}
use lib.ListN.{drop, drop_of_length-le}
use Rattle.buffer.specs.Walk.{Walked, item}
use Rattle.buffer.proofs.Tests.{both, neither}
use Rattle.varint.specs.Varint.{varint_at, varint, delimited_at, encloses, stands}
use Rattle.varint.proofs.Stretched.{delimited-split}
use Rattle.tlv.specs.Record.{of_value, of_kind, record_at, stepped, record_step, records_from, Tlv, valued, records, readable, padded_among, record_bytes, payload}
use Rattle.tlv.specs.Statements.{Fitting, shortest}
use Rattle.tlv.specs.declared.Record.{Record}
use Rattle.tlv.proofs.Theorems.{round_trip}
use Rattle.form.specs.Bytes.{AreBytes}
use Rattle.form.specs.Record.{unread, in_form}
use Rattle.form.specs.Statements.{RecordsFormed}
use Rattle.form.proofs.Numbers.{same, delimited-same}
use Rattle.form.proofs.Walks.{walk-holds}
use Rattle.varint.specs.declared.Delimited.{Delimited}
use Rattle.varint.specs.declared.Varint.{Varint}

-- a record that is taken: where its type and its length were read
record Stands (s : List ℕ) (at : ℕ) (r : Record) : Type 0 where
  mid : ℕ
  kind_padded : Bool
  length_padded : Bool
  kind : varint_at s at ≡ stands r.kind mid kind_padded
  value : delimited_at s mid ≡ encloses r.start r.end length_padded
  padded : (kind_padded || length_padded) ≡ r.padded

record-stands : (s : List ℕ) (at : ℕ) (r : Record) → record_at s at ≡ Some r → Stands s at r
unfolding record_at of_kind of_value
record-stands s at r e = go (varint_at s at) refl e
  where
    behind : (kind mid : ℕ) (o : Bool) (d : Option Delimited) → varint_at s at ≡ stands kind mid o → delimited_at s mid ≡ d → of_value kind o d ≡ Some r → Stands s at r
    behind kind mid o (Some y) k l q =
        let w : record { kind = kind; start = y.start; end = y.end; padded = o || y.padded } ≡ r = cc in
        record {
          mid = mid;
          kind_padded = o;
          length_padded = y.padded;
          kind = k ∙ ap (λ (x : Record). stands x.kind mid o) w;
          value = l ∙ ap (λ (x : Record). encloses x.start x.end y.padded) w;
          padded = ap (λ (x : Record). x.padded) w;
        }
    behind kind mid o None k l q = let z : ◌≡◌ {A = ℕ} 0 1 = cc in absurd (omega arith)

    go : (v : Option Varint) → varint_at s at ≡ v → of_kind s v ≡ Some r → Stands s at r
    go (Some x) p q = behind x.value x.next x.padded (delimited_at s x.next) p refl q
    go None p q = let z : ◌≡◌ {A = ℕ} 0 1 = cc in absurd (omega arith)

module _ (s : List ℕ) (at : ℕ) (r : Record) (e : record_at s at ≡ Some r) where
  -- where it is not padded it stands as it is written
  record_same : AreBytes s → r.padded ≡ false → record_bytes r.kind (valued s r).value ++ drop r.end s ≡ drop at s
  record_same a h =
      let w = record-stands s at r e in
      let n = neither w.kind_padded w.length_padded (w.padded ∙ h) in
      let v = (valued s r).value in
      delimited-split r.kind v (drop r.end s)
      ∙ ap (◌++◌ (varint r.kind)) (delimited-same s w.mid r.start r.end a (w.value ∙ ap (encloses r.start r.end) n.1))
      ∙ same s at r.kind w.mid a (w.kind ∙ ap (stands r.kind w.mid) n.0)

-- a step of the walk is a record that was taken
step-taken : (s : List ℕ) (at : ℕ) (r : Record) (next : ℕ) → record_step s at ≡ item r next → (record_at s at ≡ Some r) × (r.end ≡ next)
unfolding record_step
step-taken s at r next e = go (record_at s at) refl e
  where
    go : (t : Option Record) → record_at s at ≡ t → stepped t ≡ item r next → (t ≡ Some r) × (r.end ≡ next)
    go (Some x) p q = (cc, cc)
    go None p q = let z : ◌≡◌ {A = ℕ} 0 1 = cc in absurd (omega arith)

-- no record that is written is padded
none-padded : (rs : List Tlv) → padded_among unread (map shortest rs) ≡ false
unfolding padded_among
none-padded [] = refl
none-padded (r ∷ rs) = none-padded rs

-- the walk over bytes that are not padded: its records are written as the bytes
abbrev Again : List ℕ → ℕ → Walked Record → Type 0
Again s at w = w.whole ≡ true → padded_among unread (map (valued s) w.items) ≡ false → payload (map (valued s) w.items) ≡ drop at s

again : (s : List ℕ) → AreBytes s → (at : ℕ) → Again s at (records_from s at)
unfolding records_from payload padded_among
again s a =
    walk-holds record_step s (Again s) (λ at h w p. sym (drop_of_length-le s h)) (λ at w p. absurd (true≢false (sym w)))
    (λ at r next w e rest l p.
    let t = step-taken s at r next e in
    let n = neither (r.padded || false) _ p in
    ap (◌++◌ (record_bytes r.kind (valued s r).value)) (rest l n.1 ∙ ap (λ (x : ℕ). drop x s) (sym t.1))
    ∙ record_same s at r t.0 a (neither r.padded false n.0).0)

unchanged : (s : List ℕ) → AreBytes s → in_form s ≡ true → payload (records s) ≡ s
unfolding in_form readable records
unchanged s a h = let t = both _ _ h in again s a 0 t.0 (not-true (padded_among unread (records s)) t.1)

formed : (rs : List Tlv) → Fitting rs → in_form (payload rs) ≡ true
unfolding in_form
formed rs h = rw (round_trip.whole rs h, round_trip.back rs h, none-padded rs) refl

pub records-formed : RecordsFormed
records-formed = record { form = formed; unchanged = unchanged }
