-- Laws of the writers: ids as texts.
use Prim.Native.Nat.{ℕ, ◌+◌, ◌*◌, ◌≤◌, ◌<◌}
use mathlib.Core.Path.{◌≡◌, refl, ap, ◌∙◌}
use mathlib.Core.List.{List, [], ◌∷◌, ◌++◌, map}
use mathlib.Core.Bool.{true}
use native.Mathlib.Numerals.{add-one}
use native.Mathlib.Omega.{arith}
use lib.ListN.{length, take, drop, get_or, length-append, drop_of_length-le}
use lib.Seq.{sets, length-sets, drop-cons}
use Rattle.buffer.specs.Put.{Put, placed, after}
use Rattle.buffer.specs.Stretch.{fits}
use Rattle.buffer.proofs.Puts.{all, Chain, chain_fits, put-join, sets-append}
use Rattle.buffer.proofs.Stretches.{fits-true, room}
use Rattle.decimal.specs.Decimal.{decimal}
use Rattle.decimal.proofs.Laws.{digits-most}
use Rattle.protobuf.specs.Write.{bytes_head, bytes_field, each}
use Rattle.protobuf.proofs.SizeLaws.{bytes_most, take-most, Most, all_most}
use Rattle.varint.specs.Varint.{delimited}
use Rattle.encode.specs.Write.{texts}

-- `rest` is what is still to be appended to `left` at `end`, for `bs` to be appended to `out` at `at`
pub record Left (out : List ℕ) (at : ℕ) (bs left : List ℕ) (end : ℕ) (rest : List ℕ) : Type 0 where
  pub bytes : sets left end rest ≡ sets out at bs
  pub position : end + length rest ≡ at + length bs
  pub inside : end + length rest ≤ length left
  pub kept : length left ≡ length out

pub left-start : (out : List ℕ) (at : ℕ) (bs : List ℕ) → fits (length out) at (length bs) ≡ true → Left out at bs out at bs
left-start out at bs h = record { bytes = refl; position = refl; inside = room (length out) at (length bs) refl h; kept = refl }

pub left-more : {out : List ℕ} {at : ℕ} {bs mid left : List ℕ} {end m n : ℕ} (old a b rest : List ℕ)
    → Left out at bs old end ((a ++ b) ++ rest) → Put old end a mid m → Put mid m b left n → Left out at bs left n rest
unfolding placed after
left-more {left = left} {end = end} {n = n} old a b rest l p q =
    let k : length ((a ++ b) ++ rest) ≡ length (a ++ b) + length rest = length-append (a ++ b) rest in
    let h = l.inside in
    let f = fits-true (length old) end (length (a ++ b)) (omega arith) in
    let w = put-join old end a b f p q in
    let e : left ≡ sets old end (a ++ b) = rw f at w.bytes in
    let z : n ≡ end + length (a ++ b) = rw f at w.position in
    let s : length left ≡ length old = ap length e ∙ length-sets old end (a ++ b) in
    record {
      bytes = rw (e, z, ← sets-append (a ++ b) old rest end) l.bytes;
      position = omega (arith, l.position);
      inside = omega arith;
      kept = s ∙ l.kept;
    }

pub left_end : {out : List ℕ} {at : ℕ} {bs left : List ℕ} {end : ℕ} → Left out at bs left end [] → Put out at bs left end
unfolding placed after
left_end {out} {at} {bs} {left} {end} l =
    let h = l.inside in
    let f = fits-true (length out) at (length bs) (omega (arith, l.position, l.kept)) in
    record { bytes = rw f l.bytes; position = rw f (omega (arith, l.position)) }

-- ids as texts, from the i-th on
pub texts-end : (n : ℕ) (ids : List ℕ) (i : ℕ) → length ids ≤ i → texts n (drop i ids) ≡ []
unfolding texts each
texts-end n ids i h = rw (drop_of_length-le ids {i = i} h)

pub texts-more : (n : ℕ) (ids : List ℕ) (i id len : ℕ) → i < length ids → id ≡ get_or ids i 0 → len ≡ length (decimal id)
    → texts n (drop i ids) ≡ (bytes_head n len ++ decimal id) ++ texts n (drop (i + 1) ids)
unfolding texts each bytes_field bytes_head delimited
texts-more n ids i id len h e k = rw (k, e, add-one, drop-cons ids i 0)

-- texts by the table's row
pub texts-each : (n : ℕ) (ids : List ℕ) → texts n ids ≡ each (bytes_field n) (map decimal ids)
unfolding texts each
texts-each n [] = refl
texts-each n (id ∷ ids) = ap (λ (l : List ℕ). bytes_field n (decimal id) ++ l) (texts-each n ids)

pub decimal-most : (id : ℕ) → length (decimal id) ≤ 10
unfolding decimal
decimal-most id = omega (arith, digits-most 9 id [])

texts-length : (n : ℕ) (ids : List ℕ) → length (texts n ids) ≤ 30 * length ids
unfolding texts each
texts-length n [] = omega arith
texts-length n (id ∷ ids) =
    let h = bytes_most n 10 (decimal id) (decimal-most id) in
    let k : length (texts n ids) ≤ 30 * length ids = texts-length n ids in
    omega (arith, length-append (bytes_field n (decimal id)) (texts n ids))

texts-most : (n k m : ℕ) (ids list : List ℕ) → ids ≡ take m list → length list ≡ k → length (texts n ids) ≤ 30 * k
texts-most n k m ids list e h = rw e (let g = take-most m k list h in omega (arith, texts-length n (take m list)))

-- such a list by the table's row
pub list-most : (n k m : ℕ) (list : List ℕ) → length list ≡ k → length (each (bytes_field n) (map decimal (take m list))) ≤ 30 * k
list-most n k m list h = rw (← texts-each n (take m list)) (texts-most n k m (take m list) list refl h)

-- room for ids as texts behind such pieces
pub room-texts : {out : List ℕ} {ps : List (List ℕ)} {left : List ℕ} {at m : ℕ} (n k count : ℕ) (ids list : List ℕ)
    → Chain out 0 ps left at → Most ps m → ids ≡ take count list → length list ≡ k → m + 30 * k ≤ length out
    → fits (length left) at (length (texts n ids)) ≡ true
room-texts {out} {ps} {left} {at} n k count ids list c b e h g =
    let z = all_most b in
    let t = texts-most n k count ids list e h in
    let r = chain_fits c (omega arith) in
    let l : length left ≡ length out = ap length r.0 ∙ length-sets out 0 (all ps) in
    fits-true (length left) at (length (texts n ids)) (omega (arith, r.1))
