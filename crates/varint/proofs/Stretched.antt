-- Laws of numbers and of bytes behind their length, in a slice: where they lie, and that what is written is found again.
use Rattle.std.specs.Prelude.{None, Option, Some}
use Prim.Native.Nat.{ℕ, ◌+◌, ◌^◌, ◌≤◌, ◌<◌}
use mathlib.Core.Path.{◌≡◌, refl, ap, ◌∙◌}
use mathlib.Core.List.{List, ◌++◌, append_assoc}
use mathlib.Core.Bool.{Bool, false}
use native.Mathlib.Omega.{arith}
use lib.ListN.{length, length-append}
use Rattle.buffer.specs.Stretch.{stretch}
use Rattle.buffer.proofs.Stretches.{fits-true, stretch-to, stretch-inside}
use Rattle.varint.specs.Varint.{varint_at, varint, two, delimited, of_stretch, of_length, delimited_at, encloses, stands}
use Rattle.varint.proofs.Theorems.{round_trip, inside}
use Rattle.varint.specs.declared.Delimited.{Delimited}
use Rattle.varint.specs.declared.Varint.{Varint}

-- bytes that stand behind one length are the same, part by part
pub encloses-is : (a b start end : ℕ) (o p : Bool) → encloses a b o ≡ encloses start end p → (a ≡ start) × (b ≡ end) × (o ≡ p)
encloses-is a b start end o p q =
    let e : ◌≡◌ {A = Delimited} (record { start = a; end = b; padded = o }) (record { start = start; end = end; padded = p }) = cc in
    (ap (λ (r : Delimited). r.start) e, ap (λ (r : Delimited). r.end) e, ap (λ (r : Delimited). r.padded) e)

-- bytes behind their length lie in the slice, after the position
pub delimited-inside : (s : List ℕ) (at start end : ℕ) (p : Bool) → delimited_at s at ≡ encloses start end p → (at < start) × (start ≤ end) × (end ≤ length s)
unfolding delimited_at of_length of_stretch
delimited-inside s at start end p e = go (varint_at s at) refl e
  where
    held : (mid : ℕ) (o : Bool) (t : Option ℕ) → of_stretch mid o t ≡ encloses start end p → (mid ≡ start) × (t ≡ Some end)
    held mid o (Some x) q =
        let e = encloses-is mid x start end o p q in
        (e.0, ap (λ (n : ℕ). Some n) e.1)
    held mid o None q = let z : ◌≡◌ {A = ℕ} 0 1 = cc in absurd (omega arith)

    go : (v : Option Varint) → varint_at s at ≡ v → of_length s v ≡ encloses start end p → (at < start) × (start ≤ end) × (end ≤ length s)
    go (Some x) l q =
        let h = held x.next x.padded (stretch (length s) x.next x.value) q in
        let i = inside s at x.value x.next x.padded l in
        let w = stretch-inside (length s) x.next x.value end h.1 in
        omega arith
    go None l q = let z : ◌≡◌ {A = ℕ} 0 1 = cc in absurd (omega arith)

-- what is written, and what follows it, in pieces
pub delimited-split : (key : ℕ) (v rest : List ℕ) → delimited key v ++ rest ≡ varint key ++ (varint (length v) ++ (v ++ rest))
unfolding two delimited
delimited-split key v rest = simp append_assoc

-- a number that is written is read, wherever it stands
pub varint-back : (s front : List ℕ) (v : ℕ) (rest : List ℕ) (at : ℕ) → s ≡ front ++ (varint v ++ rest) → at ≡ length front → v < 2 ^ 64
    → varint_at s at ≡ stands v (at + length (varint v)) false
varint-back s front v rest at e p h = rw (e, p) (round_trip.back front v rest h)

-- bytes that are written behind their length are found, wherever they stand
pub delimited-back : (s front v rest : List ℕ) (at : ℕ) → s ≡ front ++ (varint (length v) ++ (v ++ rest)) → at ≡ length front → length v < 2 ^ 64
    → delimited_at s at ≡ encloses (at + length (varint (length v))) (at + length (varint (length v)) + length v) false
unfolding delimited_at of_length of_stretch
delimited-back s front v rest at e p h =
    let start = at + length (varint (length v)) in
    let n : length s ≡ length front + (length (varint (length v)) + (length v + length rest)) = ap length e ∙ simp length-append in
    ap (of_length s) (varint-back s front (length v) (v ++ rest) at e p h)
    ∙ ap (of_stretch start false) (stretch-to (length s) start (length v) (fits-true (length s) start (length v) (omega arith)))
