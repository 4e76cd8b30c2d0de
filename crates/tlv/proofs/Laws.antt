-- Laws of a record and of the walk over records, one step each.
use Rattle.std.specs.Prelude.{None, Option, Some}
use Prim.Native.Nat.{ℕ, ◌≤◌, ◌<◌}
use mathlib.Core.Path.{◌≡◌, refl, sym, ap, ◌∙◌}
use mathlib.Core.List.{List, map}
use mathlib.Core.Bool.{Bool, true, false, ◌||◌, or-false, or_assoc}
use native.Mathlib.Omega.{arith}
use lib.ListN.{length}
use Rattle.buffer.specs.Walk.{item, ended, joined}
use Rattle.buffer.proofs.Walks.{Advances, walk_end, walk_more, walk-unreadable}
use Rattle.varint.specs.Varint.{varint_at, delimited_at, encloses}
use Rattle.varint.proofs.Theorems.{inside}
use Rattle.tlv.specs.Record.{of_value, of_kind, record_at, stepped, record_step, records_from, valued, records, padded_among}
use Rattle.tlv.specs.declared.Record.{Record}
use Rattle.varint.proofs.Stretched.{delimited-inside}
use Rattle.varint.specs.declared.Delimited.{Delimited}
use Rattle.varint.specs.declared.Varint.{Varint}

-- a record that is taken lies in the slice, after the position
pub record-inside : (s : List ℕ) (at : ℕ) (r : Record) → record_at s at ≡ Some r → (at < r.start) × (r.start ≤ r.end) × (r.end ≤ length s)
unfolding record_at of_kind of_value
record-inside s at r e = go (varint_at s at) refl e
  where
    value : (kind : ℕ) (o : Bool) (d : Option Delimited) → of_value kind o d ≡ Some r → (p : Bool) × (d ≡ encloses r.start r.end p)
    value kind o (Some x) q =
        let e : r ≡ record { kind = kind; start = x.start; end = x.end; padded = o || x.padded } = cc in
        (x.padded, ap (λ (t : Record). encloses t.start t.end x.padded) (sym e))
    value kind o None q = let z : ◌≡◌ {A = ℕ} 0 1 = cc in absurd (omega arith)

    go : (v : Option Varint) → varint_at s at ≡ v → of_kind s v ≡ Some r → (at < r.start) × (r.start ≤ r.end) × (r.end ≤ length s)
    go (Some x) p q =
        let i = inside s at x.value x.next x.padded p in
        let h = value x.value x.padded (delimited_at s x.next) q in
        let d = delimited-inside s x.next r.start r.end h.0 h.1 in
        (omega arith, omega arith, omega arith)
    go None p q = let z : ◌≡◌ {A = ℕ} 0 1 = cc in absurd (omega arith)

-- a step of the walk is a record that was taken
step-taken : (s : List ℕ) (at : ℕ) (r : Record) (next : ℕ) → record_step s at ≡ item r next → (record_at s at ≡ Some r) × (r.end ≡ next)
unfolding record_step
step-taken s at r next e = go (record_at s at) refl e
  where
    go : (t : Option Record) → record_at s at ≡ t → stepped t ≡ item r next → (t ≡ Some r) × (r.end ≡ next)
    go (Some x) p q = (cc, cc)
    go None p q = let z : ◌≡◌ {A = ℕ} 0 1 = cc in absurd (omega arith)

pub advances : Advances record_step
advances s at r next e =
    let t = step-taken s at r next e in
    let i = record-inside s at r t.0 in
    omega arith

-- the records from a position on
pub records-end : (s : List ℕ) (at : ℕ) → length s ≤ at → records_from s at ≡ ended true
unfolding records_from
records-end s at h = walk_end record_step s at h

pub records-more : (s : List ℕ) (at : ℕ) (r : Record) → record_at s at ≡ Some r → records_from s at ≡ joined r (records_from s r.end)
unfolding records_from record_step
records-more s at r e =
    let i = record-inside s at r e in
    walk_more record_step advances s at r.end r (omega arith) (ap stepped e)

pub records-unreadable : (s : List ℕ) (at : ℕ) → at < length s → record_at s at ≡ None → records_from s at ≡ ended false
unfolding records_from record_step
records-unreadable s at h e = walk-unreadable record_step s at h (ap stepped e)

-- whether one of them is padded, with what was found before the position
module _ (inside : ℕ → List ℕ → Bool) (s : List ℕ) where
  unfoldable pub padded_from : ℕ → Bool
  padded_from at = padded_among inside (map (valued s) (records_from s at).items)

  pub padded-start : padded_among inside (records s) ≡ (false || padded_from 0)
  unfolding records padded_from
  padded-start = refl

  module _ (at : ℕ) {all : Bool} (before : Bool) (inv : all ≡ (before || padded_from at)) where
    pub padded-end : length s ≤ at → before ≡ all
    unfolding padded_from padded_among
    padded-end h = sym (inv ∙ rw (records-end s at h) (or-false before))

    pub padded-unreadable : at < length s → record_at s at ≡ None → before ≡ all
    unfolding padded_from padded_among
    padded-unreadable h e = sym (inv ∙ rw (records-unreadable s at h e) (or-false before))

    pub padded-more : (r : Record) {x here next : Bool} → record_at s at ≡ Some r → x ≡ inside r.kind (valued s r).value → here ≡ (r.padded || x) → next ≡ (before || here)
        → all ≡ (next || padded_from r.end)
    unfolding padded_from padded_among
    padded-more r e f h k = inv ∙ rw (records-more s at r e, k, h, f) (sym (or_assoc before (r.padded || inside r.kind (valued s r).value) (padded_from r.end)))
