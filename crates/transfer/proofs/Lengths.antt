-- Laws of block arithmetic: how many blocks there are, and where each lies in the file.
use Rattle.std.proofs.Common.{◌≡◌, ℕ, zero, suc, ◌+◌, ◌-◌, ◌*◌, ◌^◌, ◌<◌, ◌≤◌, refl, mul-le-mul_right, suc-mul, div-lt_iff_lt-mul, mul-le-mul, one-mul, le-div_iff_mul-le, le-mul_of_pos_right, arith}
use native.Mathlib.Nat.{div-zero}
use Rattle.transfer.specs.Blocks.{blocks, block_length}

-- no blocks of no length
pub blocks-none : (size each : ℕ) → each ≡ 0 → blocks size each ≡ 0
unfolding blocks
blocks-none size each e = rw e (div-zero (size + (0 - 1)))

-- what has a block has a block size
pub blocks-each : (size each n : ℕ) → n < blocks size each → 1 ≤ each
blocks-each size zero n h = let z = blocks-none size 0 refl in absurd (omega arith)
blocks-each size (suc k) n h = omega arith

-- there are no more blocks than bytes
pub blocks-most : (size each : ℕ) → blocks size each ≤ size
unfolding blocks
blocks-most size zero = let z = blocks-none size 0 refl in omega arith
blocks-most size (suc k) =
    let p = le-mul_of_pos_right {m = suc k} size (omega arith) in
    let e : suc size * suc k ≡ size * suc k + suc k = suc-mul size (suc k) in
    let l = (div-lt_iff_lt-mul {k = suc k} {x = size + (suc k - 1)} {y = suc size} (omega arith)).1 (omega arith) in
    omega arith

module _ (size each n : ℕ) where
  pub length_none : size ≤ n * each → block_length size each n ≡ 0
  unfolding block_length
  length_none h = omega arith

  -- no block is longer than the block size
  pub length_most : block_length size each n ≤ each
  unfolding block_length
  length_most = omega arith

  pub length-full : each < size - n * each → block_length size each n ≡ each
  unfolding block_length
  length-full h = omega arith

  pub length_rest : size - n * each ≤ each → block_length size each n ≡ size - n * each
  unfolding block_length
  length_rest h = omega arith

-- the product of two 32-bit numbers fits 64 bits
pub product_small : (m n : ℕ) → m < 2 ^ 32 → n < 2 ^ 32 → m * n < 2 ^ 64
product_small m n h k = let p = mul-le-mul {n₁ = m} {m₁ = n} {n₂ = 4294967295} {m₂ = 4294967295} (omega arith) (omega arith) in omega arith

-- a file of some bytes has some blocks
pub blocks-some : (size each : ℕ) → 1 ≤ each → 1 ≤ size → 1 ≤ blocks size each
unfolding blocks
blocks-some size each h k =
    let e : 1 * each ≡ each = one-mul each in (le-div_iff_mul-le {k = each} {x = 1} {y = size + (each - 1)} h).1 (omega arith)

module _ (size each n : ℕ) (k : n < blocks size each) where
  -- a block starts in the file
  pub start-below : n * each < size
  unfolding blocks
  start-below =
      let h = blocks-each size each n k in
      let p = (le-div_iff_mul-le {k = each} {x = suc n} {y = size + (each - 1)} h).0 k in
      let e : suc n * each ≡ n * each + each = suc-mul n each in
      omega arith

  -- and ends in it
  pub block_inside : n * each + block_length size each n ≤ size
  unfolding block_length
  block_inside = let s = start-below in omega arith

  -- a lower block is full, and ends before it
  pub lower-full : (m : ℕ) → m < n → block_length size each m ≡ each
  unfolding block_length
  lower-full m l =
      let s = start-below in
      let p = mul-le-mul_right {m = suc m} {n = n} each l in
      let e : suc m * each ≡ m * each + each = suc-mul m each in
      omega arith

  pub lower-before : (m : ℕ) → m < n → m * each + block_length size each m ≤ n * each
  lower-before m l =
      let f = lower-full m l in
      let p = mul-le-mul_right {m = suc m} {n = n} each l in
      let e : suc m * each ≡ m * each + each = suc-mul m each in
      omega arith
