-- What `specs/Statements.antt` states of records: the walk over a written payload gives back its records, one at a time.
use Rattle.std.specs.Prelude.{None, Option, Some}
use Prim.Native.Nat.{ℕ, ◌+◌, ◌-◌, ◌^◌, ◌<◌}
use mathlib.Core.Path.{◌≡◌, refl, sym, ap, ap₂, ◌∙◌}
use mathlib.Core.List.{List, [], ◌∷◌, ◌++◌, map, append_assoc}
use mathlib.Core.Bool.{Bool, true, false}
use native.Mathlib.Omega.{arith}
use lib.ListN.{length, take, drop, length-append}
use lib.Seq.{take_at, drop_at}
use Rattle.varint.specs.Before.{number_in, delimited_in}
use Rattle.varint.specs.Varint.{varint_at, varint, two, delimited, delimited_at, stands}
use Rattle.varint.proofs.Laws.{two-length, delimited-length}
use Rattle.varint.proofs.Theorems.{round_trip as varint-round-trip, numbers-stand}
use Rattle.tlv.specs.Record.{of_value, of_kind, record_at, records_from, Tlv, valued, records, readable, record_bytes, payload}
use Rattle.tlv.specs.Statements.{Fitting, none, one, shortest, RoundTrip}
use Rattle.tlv.specs.Before.{value_before, kind_before, record_before, record_in, RecordsStand}
use Rattle.tlv.specs.declared.Record.{Record}
use Rattle.varint.proofs.Stretched.{delimited-split, delimited-back}
use Rattle.tlv.proofs.Laws.{records-end, records-more}
use Rattle.varint.specs.declared.Delimited.{Delimited}
use Rattle.varint.specs.declared.Varint.{Varint}

-- where a record written at a position stands
abbrev pub standing : ℕ → ℕ → List ℕ → Record
standing at k v = record { kind = k; start = at + length (two k (length v)); end = at + length (record_bytes k v); padded = false }

module _ (s front : List ℕ) (at k : ℕ) (v rest : List ℕ) (e : s ≡ front ++ (record_bytes k v ++ rest)) (p : at ≡ length front) where
  -- a record that was written is taken, wherever it stands
  pub record-back : k < 2 ^ 64 → length v < 2 ^ 64 → record_at s at ≡ Some (standing at k v)
  unfolding record_at of_kind of_value
  record-back hk hv =
      let mid = at + length (varint k) in
      let e' : s ≡ front ++ (varint k ++ (varint (length v) ++ (v ++ rest))) = e ∙ ap (◌++◌ front) (delimited-split k v rest) in
      let q : mid ≡ length (front ++ varint k) = simp length-append (omega arith) in
      ap (of_kind s) (ap₂ varint_at e' p ∙ varint-round-trip.back front k (varint (length v) ++ (v ++ rest)) hk ∙ ap (λ (n : ℕ). stands k (n + length (varint k)) false) (sym p))
      ∙ ap (of_value k false) (delimited-back s (front ++ varint k) v rest mid (e' ∙ sym (append_assoc front (varint k) (varint (length v) ++ (v ++ rest)))) q hv)
      ∙ ap₂ (λ (start end : ℕ). Some (record { kind = k; start = start; end = end; padded = false })) (omega (arith, two-length k (length v))) (omega (arith, delimited-length k v))

  -- and has its value
  pub record-value : valued s (standing at k v) ≡ record { kind = k; value = v; padded = false }
  unfolding delimited
  record-value =
      let r = standing at k v in
      let e' : s ≡ (front ++ two k (length v)) ++ (v ++ rest) = e ∙ simp append_assoc in
      let q : length (front ++ two k (length v)) ≡ r.start = simp length-append (omega arith) in
      let n : length v ≡ r.end - r.start = simp length-append (omega arith) in
      ap (λ (x : List ℕ). record { kind = k; value = x; padded = false })
      (ap (λ (x : List ℕ). take (r.end - r.start) (drop r.start x)) e'
      ∙ ap (take (r.end - r.start)) (drop_at (front ++ two k (length v)) (v ++ rest) r.start q)
      ∙ take_at v rest (r.end - r.start) n)

-- the walk over a written payload gives its records, each with its value, and comes to the end
read_back : (rs : List Tlv) (s front : List ℕ) (at : ℕ) → Fitting rs → s ≡ front ++ payload rs → at ≡ length front
    → ((records_from s at).whole ≡ true) × (map (valued s) (records_from s at).items ≡ map shortest rs)
unfolding payload
read_back [] s front at none e p =
    let w = records-end s at (omega (arith, simp length-append at (ap length e))) in
    (rw w, rw w)
read_back (r ∷ rs) s front at (one hk hv h) e p =
    let x = standing at r.kind r.value in
    let bs = record_bytes r.kind r.value in
    let w = records-more s at x (record-back s front at r.kind r.value (payload rs) e p hk hv) in
    let ih = read_back rs s (front ++ bs) x.end h (e ∙ sym (append_assoc front bs (payload rs))) (simp length-append (omega arith)) in
    (rw w ih.0, rw w (ap₂ ◌∷◌ (record-value s front at r.kind r.value (payload rs) e p) ih.1))

-- what is written does not go by padding
payload-shortest : (rs : List Tlv) → payload (map shortest rs) ≡ payload rs
unfolding payload
payload-shortest [] = refl
payload-shortest (r ∷ rs) = ap (◌++◌ (record_bytes r.kind r.value)) (payload-shortest rs)

pub round_trip : RoundTrip
unfolding readable records
round_trip =
    record {
      whole = λ rs h. (read_back rs (payload rs) [] 0 h refl refl).0;
      back = λ rs h. (read_back rs (payload rs) [] 0 h refl refl).1;
      unchanged = λ rs s h e. ap payload (read_back rs s [] 0 h e refl).1 ∙ payload-shortest rs ∙ sym e;
    }

-- what is told of a record is as before, but for `padded`
value-stands : (kind : ℕ) (p : Bool) (d : Option Delimited) → record_in (of_value kind p d) ≡ value_before kind (delimited_in d)
unfolding of_value value_before
value-stands kind p (Some x) = refl
value-stands kind p None = refl

kind-stands : (s : List ℕ) (v : Option Varint) → record_in (of_kind s v) ≡ kind_before s (number_in v)
unfolding of_kind kind_before
kind-stands s (Some x) = value-stands x.value x.padded (delimited_at s x.next) ∙ ap (value_before x.value) (numbers-stand.lengths s x.next)
kind-stands s None = refl

pub records-stand : RecordsStand
unfolding record_at record_before
records-stand s at = kind-stands s (varint_at s at) ∙ ap (kind_before s) (numbers-stand.numbers s at)
