-- Laws of reading a capture, one step each.
use Rattle.std.specs.Prelude.{None, Option, Some}
use Prim.Native.Nat.{ℕ, zero, suc, ◌+◌, ◌*◌, ◌-◌, ◌≤◌, ◌<◌}
use mathlib.Core.Path.{◌≡◌, refl, sym, ap, ◌∙◌}
use mathlib.Core.List.{List}
use native.Mathlib.Omega.{arith}
use native.Mathlib.Nat.{sub-zero}
use borrow.Author.Tests.{eq-eqb, ne_eqb, le-leb}
use lib.ListN.{length, drop}
use lib.Seq.{drop-drop}
use Rattle.capture.specs.Read.{byte_at, wide16, wide32, end_from, indexed, index_in, trailer_of, distance_in, count_in, framed, capture_in}

-- where the datagrams end
pub ends_more : (n : ℕ) (rows : List ℕ) (at : ℕ) → byte_at rows 7 ≡ 0 → end_from (suc n) rows at ≡ end_from n (drop 8 rows) (at + wide16 (drop 4 rows))
unfolding end_from
ends_more n rows at h = rw (eq-eqb (byte_at rows 7) 0 h)

pub ends-bad : (n : ℕ) (rows : List ℕ) (at : ℕ) → (byte_at rows 7 ≡ 0 → ⊥) → end_from (suc n) rows at ≡ None
unfolding end_from
ends-bad n rows at h = rw (ne_eqb (byte_at rows 7) 0 h)

pub ends-none : (rows : List ℕ) (at : ℕ) → end_from zero rows at ≡ Some at
unfolding end_from
ends-none rows at = refl

-- what is left of the rows from the i-th on
pub record Counting (rows : List ℕ) (count end i : ℕ) : Type 0 where
  pub left : end_from (count - i) (drop (i * 8) rows) end ≡ end_from count rows 0
  pub below : end ≤ i * 65535

module _ (rows : List ℕ) (count : ℕ) where
  pub counting-start : Counting rows count 0 0
  counting-start = record { left = rw (sub-zero count); below = omega arith }

  pub counting-end : (end i : ℕ) → Counting rows count end i → count ≤ i → Some end ≡ end_from count rows 0
  counting-end end i k h =
      let z : count - i ≡ 0 = omega arith in
      sym (ends-none (drop (i * 8) rows) end) ∙ (rw z at k.left)

  module _ (end i : ℕ) (k : Counting rows count end i) (h : i < count) {row : List ℕ} (e : row ≡ drop (i * 8) rows) {last : ℕ} (f : last ≡ byte_at row 7) where
    one : count - i ≡ suc (count - (i + 1))
    one = omega arith

    pub counting-bad : (last ≡ 0 → ⊥) → None ≡ end_from count rows 0
    counting-bad b =
        sym (ends-bad (count - (i + 1)) (drop (i * 8) rows) end (λ q. b (f ∙ ap (λ (l : List ℕ). byte_at l 7) e ∙ q))) ∙ (rw one at k.left)

    pub counting_more : last ≡ 0 → {back : List ℕ} {len : ℕ} → back ≡ drop 4 row → len ≡ wide16 back → len < 65536 → Counting rows count (end + len) (i + 1)
    counting_more g {back} {len} p q b =
        let z : byte_at (drop (i * 8) rows) 7 ≡ 0 = ap (λ (l : List ℕ). byte_at l 7) (sym e) ∙ sym f ∙ g in
        let w : wide16 (drop 4 (drop (i * 8) rows)) ≡ len = rw (q, p, e) in
        let n : i * 8 + 8 ≡ (i + 1) * 8 = omega arith in
        let m = ends_more (count - (i + 1)) (drop (i * 8) rows) end z in
        record {
          left = rw (w, drop-drop 8 (i * 8) rows, n) at (sym m) ∙ (rw one at k.left);
          below = let a = k.below in omega arith;
        }

-- the index, by where the datagrams end
module _ (s : List ℕ) (index count : ℕ) {rows : List ℕ} {r : Option ℕ} (e : rows ≡ drop index s) (f : r ≡ end_from count rows 0) where
  pub index-there : (end : ℕ) → r ≡ Some end → end ≡ index → indexed index count ≡ index_in index count (end_from count (drop index s) 0)
  unfolding index_in
  index-there end h k = rw (← e, ← f, h, eq-eqb end index k)

-- a file that is a capture
module _ (s : List ℕ) (h : 6 ≤ length s) (k : length s ≤ 65536) {trailer back : List ℕ} {distance count : ℕ} (t : trailer ≡ drop (length s - 6) s) (d : distance ≡ wide32 trailer) (b : back ≡ drop 4 trailer) (n : count ≡ wide16 back) where
  distance_is : distance_in s ≡ distance
  unfolding distance_in trailer_of
  distance_is = rw (d, t)

  count-is : count_in s ≡ count
  unfolding count_in trailer_of
  count-is = rw (n, b, t)

  pub capture-is : distance ≡ count * 8 + 6 → distance ≤ length s → capture_in s ≡ index_in (length s - distance) count (end_from count (drop (length s - distance) s) 0)
  unfolding capture_in framed
  capture-is x y = rw (distance_is, count-is, le-leb 6 (length s) h, le-leb (length s) 65536 k, eq-eqb distance (count * 8 + 6) x, le-leb distance (length s) y)

-- the walk over the rows, step by step
pub ruleset counting_steps = (counting-start, counting-bad, counting_more, counting-end)
