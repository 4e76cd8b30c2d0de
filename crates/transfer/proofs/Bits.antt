-- Laws of one bit of a byte, by halving.
use Rattle.std.proofs.Common.{◌≡◌, ℕ, zero, suc, ◌+◌, ◌*◌, ◌/◌, ◌%◌, ◌^◌, ◌<◌, true, false, eqb, refl, ap, pow-suc, div-one, arith, eq-eqb, eqb-true}
use native.Mathlib.Nat.{pow-zero, pow-succ', div-div-eq-div-mul}
use borrow.Author.Tests.{eqb-false}
use Rattle.transfer.specs.Bitmap.{bit, raised}

-- a bit by its weight
pub bit-weight : (j b : ℕ) → bit j b ≡ eqb (b / 2 ^ j % 2) 1
unfolding bit
bit-weight zero b = rw (pow-zero 2, div-one b)
bit-weight (suc j) b = rw (pow-succ' 2 j, ← div-div-eq-div-mul b 2 (2 ^ j)) (bit-weight j (b / 2))

-- a bit that is set stays, and another adds its weight
pub raised-set : (j b : ℕ) → bit j b ≡ true → raised j b ≡ b
unfolding bit raised
raised-set zero b h = let e = eqb-true (b % 2) 1 h in omega arith
raised-set (suc j) b h = let r = raised-set j (b / 2) h in omega arith

pub raised-weight : (j b : ℕ) → bit j b ≡ false → raised j b ≡ b + 2 ^ j
unfolding bit raised
raised-weight zero b h = let e = eqb-false (b % 2) 1 h in omega arith
raised-weight (suc j) b h = let e = pow-suc 2 j in let r = raised-weight j (b / 2) h in omega arith

-- a number of k bits stays one
pub raised-small : (k j b : ℕ) → j < k → b < 2 ^ k → raised j b < 2 ^ k
unfolding raised
raised-small zero j b h g = absurd (omega arith)
raised-small (suc k) zero b h g = rw pow-suc (let e = pow-suc 2 k in omega arith)
raised-small (suc k) (suc j) b h g =
    let e = pow-suc 2 k in let r = raised-small k j (b / 2) (omega arith) (omega arith) in rw pow-suc (omega arith)

-- a byte whose low bit is set: its half and its low bit
half-low : (b : ℕ) → (b / 2 * 2 + 1) / 2 ≡ b / 2
half-low b = omega arith

low-low : (b : ℕ) → (b / 2 * 2 + 1) % 2 ≡ 1
low-low b = omega arith

-- a byte made of a half and the low bit of b
half_of : (x b : ℕ) → (x * 2 + b % 2) / 2 ≡ x
half_of x b = omega arith

low_of : (x b : ℕ) → (x * 2 + b % 2) % 2 ≡ b % 2
low_of x b = omega arith

pub bit-raised : (j b : ℕ) → bit j (raised j b) ≡ true
unfolding bit raised
bit-raised zero b = eq-eqb ((b / 2 * 2 + 1) % 2) 1 (low-low b)
bit-raised (suc j) b = rw half_of (bit-raised j (b / 2))

pub bit-raised-other : (j k b : ℕ) → (k ≡ j → ⊥) → bit k (raised j b) ≡ bit k b
unfolding bit raised
bit-raised-other zero zero b h = absurd (h refl)
bit-raised-other zero (suc k) b h = rw half-low
bit-raised-other (suc j) zero b h = rw low_of
bit-raised-other (suc j) (suc k) b h = rw half_of (bit-raised-other j k (b / 2) (λ e. h (ap suc e)))

pub raised-swap : (j k b : ℕ) → raised k (raised j b) ≡ raised j (raised k b)
unfolding raised
raised-swap zero zero b = refl
raised-swap zero (suc k) b = rw (half-low, low-low, half_of)
raised-swap (suc j) zero b = rw (half-low, low-low, half_of)
raised-swap (suc j) (suc k) b = simp (half_of, low_of) (ap (λ (x : ℕ). x * 2 + b % 2) (raised-swap j k (b / 2)))

-- no bit of 0 is set
pub bit-none : (j : ℕ) → bit j 0 ≡ false
unfolding bit
bit-none zero = refl
bit-none (suc j) = bit-none j
