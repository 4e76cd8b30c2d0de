-- Laws of the spellings, one step each.
use Rattle.std.specs.Prelude.{None}
use Prim.Native.Nat.{ℕ, zero, suc, ◌+◌, ◌*◌, ◌-◌, ◌/◌, ◌%◌, ◌^◌, ◌≤◌, ◌<◌}
use mathlib.Core.Path.{◌≡◌, refl, sym, ap, ◌∙◌}
use mathlib.Core.List.{List, [], ◌∷◌}
use mathlib.Core.Bool.{Bool, true, false}
use native.Mathlib.Nat.{lt_of_not-le}
use native.Mathlib.Numerals.{add-one, sub-one}
use native.Mathlib.Omega.{arith}
use borrow.Author.Tests.{lt-ltb, le-ltb, ltb-true, ltb-false}
use lib.Bits.{bit_or, or_add_and, and_mask}
use lib.Count.{count_leading_zeros, leading_le, leading_length}
use lib.Dec.{ltb}
use lib.ListN.{length, get_or, drop, drop_of_length-le, length-append}
use lib.Pow.{pow_mono, pow-add}
use lib.Seq.{drop-cons}
use Rattle.buffer.specs.Pick.{pick}
use Rattle.varint.specs.Varint.{more, spelt, continued, spelling, varint, two, delimited, stands}

-- one more than the largest number that has a spelling with k bytes after the first
abbrev pub bound : ℕ → ℕ
bound zero = 2
bound (suc k) = 128 * bound k

pub bound-two : (k : ℕ) → 2 ≤ bound k
bound-two zero = omega arith
bound-two (suc k) = let h = bound-two k in omega arith

pub bound-rises : (k j : ℕ) → k ≤ j → bound k ≤ bound j
bound-rises zero j h = bound-two j
bound-rises (suc k) zero h = absurd (omega arith)
bound-rises (suc k) (suc j) h = let r = bound-rises k j (omega arith) in omega arith

-- the shortest spelling, a byte at a time
pub spelling-end : (k v : ℕ) → v < 128 → spelling k v ≡ v ∷ []
unfolding spelling
spelling-end zero v h = refl
spelling-end (suc k) v h = rw (lt-ltb v 128 h)

pub spelling-more : (k v : ℕ) → 128 ≤ v → v < bound k
    → (j : ℕ) × (k ≡ j + 1) × (v / 128 < bound j) × (spelling k v ≡ continued (v % 128) ∷ spelling j (v / 128))
unfolding spelling
spelling-more zero v h g = absurd (omega arith)
spelling-more (suc j) v h g = (j, omega arith, omega arith, rw (le-ltb v 128 h))

-- a spelling has one to ten bytes
spelling-length : (k v : ℕ) → (1 ≤ length (spelling k v)) × (length (spelling k v) ≤ suc k)
unfolding spelling
spelling-length zero v = (omega arith, omega arith)
spelling-length (suc k) v = go (ltb v 128) (spelling-length k (v / 128))
  where
    go : (t : Bool) → (1 ≤ length (spelling k (v / 128))) × (length (spelling k (v / 128)) ≤ suc k)
        → (1 ≤ length (pick t (v ∷ []) (continued (v % 128) ∷ spelling k (v / 128)))) × (length (pick t (v ∷ []) (continued (v % 128) ∷ spelling k (v / 128))) ≤ suc (suc k))
    go true h = (omega arith, omega arith)
    go false h = (omega arith, omega arith)

pub varint-length : (v : ℕ) → (1 ≤ length (varint v)) × (length (varint v) ≤ 10)
unfolding varint
varint-length v = spelling-length 9 v

-- one byte holds one to seven bits
one_byte : (m v : ℕ) → 0 < v → v < 128 → v < 2 ^ m → 2 ^ m ≤ 2 * v + 1 → 1 ≡ (m + 6) / 7
one_byte zero v p b h l = absurd (omega arith)
one_byte (suc m) v p b h l =
    let n : suc m < 8 = lt_of_not-le (λ (x : 8 ≤ suc m). let y = pow_mono x in absurd (omega arith)) in
    omega arith

-- a number of m bits, the highest of them set, takes a byte for every seven bits begun
spelling-bits : (k m v : ℕ) → 0 < v → v < bound k → v < 2 ^ m → 2 ^ m ≤ 2 * v + 1 → length (spelling k v) ≡ (m + 6) / 7
unfolding spelling
spelling-bits zero m v p b h l = one_byte m v p (omega arith) h l
spelling-bits (suc k) m v p b h l = go (ltb v 128) refl (spelling-bits k (m - 7) (v / 128))
  where
    go : (t : Bool) → ltb v 128 ≡ t
        → (0 < v / 128 → v / 128 < bound k → v / 128 < 2 ^ (m - 7) → 2 ^ (m - 7) ≤ 2 * (v / 128) + 1 → length (spelling k (v / 128)) ≡ (m - 7 + 6) / 7)
        → length (pick t (v ∷ []) (continued (v % 128) ∷ spelling k (v / 128))) ≡ (m + 6) / 7
    go true e rest = one_byte m v p (ltb-true v 128 e) h l
    go false e rest =
        let g = ltb-false v 128 e in
        let n : 7 < m = lt_of_not-le (λ (x : m ≤ 7). let y = pow_mono x in absurd (omega arith)) in
        let q : 2 ^ m ≡ 2 ^ (m - 7) * 2 ^ 7 = ap (λ (x : ℕ). 2 ^ x) (omega arith) ∙ pow-add 2 (m - 7) 7 in
        let r = rest (omega arith) (omega arith) (omega arith) (omega arith) in
        omega arith

-- the lowest bit makes no spelling longer
spelling-half : (k u v : ℕ) → u / 2 ≡ v / 2 → length (spelling k u) ≡ length (spelling k v)
unfolding spelling
spelling-half zero u v h = refl
spelling-half (suc k) u v h = go (ltb v 128) refl
  where
    go : (t : Bool) → ltb v 128 ≡ t → length (spelling (suc k) u) ≡ length (pick t (v ∷ []) (continued (v % 128) ∷ spelling k (v / 128)))
    go true e = let g = ltb-true v 128 e in rw (lt-ltb u 128 (omega arith))
    go false e =
        let g = ltb-false v 128 e in
        let q : u / 128 ≡ v / 128 = omega arith in
        rw (le-ltb u 128 (omega arith), q)

-- a number with its lowest bit set: zero, too, then has a highest bit
abbrev odd : ℕ → ℕ
odd v = bit_or v 1

odd-sum : (v : ℕ) → odd v + v % 2 ≡ v + 1
odd-sum v = ap (λ (k : ℕ). odd v + k) (sym (and_mask v 1)) ∙ or_add_and v 1

-- the zeros above the highest bit tell how long the shortest spelling is, at every width
varint-leading : (w v : ℕ) → w ≤ 64 → odd v < 2 ^ w → length (varint v) ≡ (w - count_leading_zeros w (odd v) + 6) / 7
unfolding varint
varint-leading w v g h =
    let o = odd-sum v in
    let p = pow_mono g in
    let s = leading_length w (odd v) h in
    let m : w - count_leading_zeros w (odd v) ≡ s.0 = omega (arith, s.1) in
    sym (spelling-half 9 (odd v) v (omega arith)) ∙ spelling-bits 9 s.0 (odd v) (omega arith) (omega arith) s.2 s.3 ∙ ap (λ (k : ℕ). (k + 6) / 7) (sym m)

pub varint-1 : (v : ℕ) → v < 128 → length (varint v) ≤ 1
varint-1 v h = let o = odd-sum v in omega (arith, varint-leading 7 v (omega arith) (omega arith))

pub varint-2 : (v : ℕ) → v < 2 ^ 14 → length (varint v) ≤ 2
varint-2 v h = let o = odd-sum v in omega (arith, varint-leading 14 v (omega arith) (omega arith))

pub varint-5 : (v : ℕ) → v < 2 ^ 32 → length (varint v) ≤ 5
varint-5 v h = let o = odd-sum v in omega (arith, varint-leading 32 v (omega arith) (omega arith))

-- ten bytes, less one for every seven zeros at the top of their bits
pub varint-64 : (v : ℕ) → v < 2 ^ 64 → 10 - (6 + count_leading_zeros 64 (odd v)) / 7 ≡ length (varint v)
varint-64 v h = let o = odd-sum v in omega (arith, leading_le 64 (odd v), varint-leading 64 v (omega arith) (omega arith))

-- the bytes from i on: the one there, and those after it
pub from : (s : List ℕ) (i b : ℕ) → i < length s → b ≡ get_or s i 0 → drop i s ≡ b ∷ drop (i + 1) s
from s i b h e = rw (add-one, e, drop-cons s i 0)

-- reading, a byte b at i at a time, with `left` bytes allowed after it
module _ (s : List ℕ) (i b : ℕ) (h : i < length s) (e : b ≡ get_or s i 0) where
  pub read-last : (left : ℕ) → left ≡ 0 → b < 2 → spelt left (drop i s) i ≡ stands b (i + 1) false
  unfolding spelt
  read-last left z k = rw (z, from s i b h e, lt-ltb b 2 k)

  pub read-over : (left : ℕ) → left ≡ 0 → 2 ≤ b → spelt left (drop i s) i ≡ None
  unfolding spelt
  read-over left z k = rw (z, from s i b h e, le-ltb b 2 k)

  pub read-digit : (left : ℕ) → (left ≡ 0 → ⊥) → b < 128 → spelt left (drop i s) i ≡ stands b (i + 1) false
  unfolding spelt
  read-digit zero z k = absurd (z refl)
  read-digit (suc left) z k = rw (from s i b h e, lt-ltb b 128 k)

  pub read_more : (left : ℕ) → (left ≡ 0 → ⊥) → 128 ≤ b → spelt left (drop i s) i ≡ more b (spelt (left - 1) (drop (i + 1) s) (i + 1))
  unfolding spelt
  read_more zero z k = absurd (z refl)
  read_more (suc left) z k = rw (from s i b h e, le-ltb b 128 k, sub-one (suc left))

pub read_none : (s : List ℕ) (i left : ℕ) → length s ≤ i → spelt left (drop i s) i ≡ None
unfolding spelt
read_none s i left h = rw (drop_of_length-le s {i = i} h)

pub two-length : (a b : ℕ) → length (varint a) + length (varint b) ≡ length (two a b)
unfolding two
two-length a b = sym (length-append (varint a) (varint b))

pub delimited-length : (key : ℕ) (bs : List ℕ) → length (varint key) + length (varint (length bs)) + length bs ≡ length (delimited key bs)
unfolding delimited
delimited-length key bs = ap (λ (k : ℕ). k + length bs) (two-length key (length bs)) ∙ sym (length-append (two key (length bs)) bs)
