-- Laws of the number of blocks held: a mark adds one to the ones, and the ones are as many as the blocks where none is missing.
use Rattle.std.proofs.Common.{◌≡◌, ℕ, zero, suc, ◌<◌, ◌≤◌, true, false, eqb, leb, List, length, replicate, sym, refl, ap, ◌∙◌, arith, eq-eqb, ne_eqb, eqb-true, leb-false, leb-true}
use borrow.Author.Tests.{eqb-false}
use Rattle.buffer.proofs.Tests.{split}
use Rattle.csmp.specs.declared.Image.{Image}
use Rattle.transfer.specs.Bitmap.{held, marked, all_held, none_missing, ones_below, one_more, complete, Counted, with_held}
use Rattle.transfer.specs.Block.{fits_at}
use Rattle.transfer.specs.Blocks.{blocks}
use Rattle.transfer.specs.Statements.{Compares}
use Rattle.transfer.proofs.BlockLaws.{fits_told}
use Rattle.transfer.proofs.Marks.{held-beyond, held-marked, held-other, held_none}

eqb-suc : (m n : ℕ) → eqb (suc m) (suc n) ≡ eqb m n
eqb-suc m n =
    split (eqb m n) (λ e. let q = eqb-true m n e in eq-eqb (suc m) (suc n) (omega arith) ∙ sym e)
    (λ e. let q = eqb-false m n e in ne_eqb (suc m) (suc n) (λ p. q (omega arith)) ∙ sym e)

module _ (map : List ℕ) where
  -- no more ones than bits
  ones-most : (n : ℕ) → ones_below n map ≤ n
  unfolding ones_below
  ones-most zero = omega arith
  ones-most (suc n) =
      let r = ones-most n in
      split (held map n) (λ h. rw h (omega arith)) (λ h. rw h (omega arith))

  -- all are held where there are as many ones as bits
  ones-all : (n : ℕ) → eqb (ones_below n map) n ≡ all_held n map
  unfolding ones_below all_held
  ones-all zero = refl
  ones-all (suc n) =
      split (held map n) (λ h. rw h (eqb-suc (ones_below n map) n ∙ ones-all n))
      (λ h. rw h (ne_eqb (ones_below n map) (suc n) (let r = ones-most n in λ e. omega arith)))

  -- bits that are 0 are none of the ones
  ones-spare : (n k : ℕ) → n ≤ k → ((m : ℕ) → n ≤ m → held map m ≡ false) → ones_below k map ≡ ones_below n map
  unfolding ones_below
  ones-spare n zero l s = let e : 0 ≡ n = omega arith in ap (λ (m : ℕ). ones_below m map) e
  ones-spare n (suc k) l s =
      split (eqb n (suc k)) (λ e. ap (λ (m : ℕ). ones_below m map) (sym (eqb-true n (suc k) e)))
      (λ e. let q = eqb-false n (suc k) e in rw (s k (omega (arith, q))) (ones-spare n k (omega (arith, q)) s))

  -- none stand behind the last block's or behind the bitmap, so those of the blocks are all
  ones-blocks : (n : ℕ) → ((m : ℕ) → n ≤ m → held map m ≡ false) → ones_below 1024 map ≡ ones_below n map
  ones-blocks n s =
      split (leb n 1024) (λ e. ones-spare n 1024 (leb-true n 1024 e) s)
      (λ e. sym (ones-spare 1024 n (let q = leb-false n 1024 e in omega arith) (held-beyond map)))

pub ones_none : ones_below 1024 (replicate 128 0) ≡ 0
unfolding ones_below
ones_none = ones-spare (replicate 128 0) 0 1024 (omega arith) (λ m l. held_none m)

-- a bit is raised that was 0
module _ (map : List ℕ) (n : ℕ) (b : n < 1024) (l : length map ≡ 128) (h : held map n ≡ false) where
  ones-before : (k : ℕ) → k ≤ n → ones_below k (marked map n) ≡ ones_below k map
  unfolding ones_below
  ones-before zero g = refl
  ones-before (suc k) g = rw (held-other map k n (λ e. omega arith), ones-before k (omega arith))

  ones-marked : (k : ℕ) → n < k → ones_below k (marked map n) ≡ suc (ones_below k map)
  unfolding ones_below
  ones-marked zero g = absurd (omega arith)
  ones-marked (suc k) g =
      split (eqb k n)
      (λ e. rw (eqb-true k n e, held-marked map n b l, h, ones-before n (omega arith)))
      (λ e. let q = eqb-false k n e in rw (held-other map k n q, ones-marked k (omega (arith, q)))
      (split (held map k) (λ t. rw t) (λ t. rw t)))

-- what is counted stays counted: a block that fits and is missing is one more
module _ (i : Image) (n len : ℕ) (c : Counted i) (b : blocks i.size i.block_size ≤ 1024) (l : length i.bitmap ≡ 128) (f : fits_at i n len ≡ true) (h : held i.bitmap n ≡ false) where
  pub counted-put : Counted (with_held i (marked i.bitmap n) (one_more i.held))
  unfolding one_more
  counted-put =
      let t = fits_told i n len f in
      let e = c.number in
      let m = ones-most i.bitmap 1024 in
      let o = ones-marked i.bitmap n (omega arith) l h 1024 (omega arith) in
      record {
        number = omega arith;
        spare = λ k g. held-other i.bitmap k n (λ p. omega arith) ∙ c.spare k g;
      }

pub compares : Compares
unfolding complete none_missing
compares i c =
    let n = blocks i.size i.block_size in
    ap (λ (k : ℕ). eqb k n) (c.number ∙ ones-blocks i.bitmap n c.spare) ∙ ones-all i.bitmap n
