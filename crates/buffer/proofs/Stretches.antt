-- Laws of a stretch of bytes.
use Rattle.std.specs.Prelude.{None, Some}
use Prim.Native.Nat.{ℕ, ◌+◌, ◌≤◌, ◌<◌}
use mathlib.Core.Path.{◌≡◌, refl, sym, ap, ◌∙◌}
use mathlib.Core.Bool.{Bool, true, false}
use native.Mathlib.Omega.{arith}
use borrow.Author.Tests.{le-leb, lt-leb, leb-true}
use Rattle.buffer.specs.Stretch.{fits, stretch}

pub fits-true : (len at n : ℕ) → at + n ≤ len → fits len at n ≡ true
unfolding fits
fits-true len at n h = le-leb (at + n) len h

pub fits-false : (len at n : ℕ) → len < at + n → fits len at n ≡ false
unfolding fits
fits-false len at n h = lt-leb (at + n) len h

-- what a true and a false answer say
pub room : {t : Bool} (len at n : ℕ) → t ≡ fits len at n → t ≡ true → at + n ≤ len
unfolding fits
room len at n e h = leb-true (at + n) len (sym e ∙ h)

pub stretch-to : (len at n : ℕ) → fits len at n ≡ true → stretch len at n ≡ Some (at + n)
unfolding stretch
stretch-to len at n h = rw h

pub stretch-outside : (len at n : ℕ) → fits len at n ≡ false → stretch len at n ≡ None
unfolding stretch
stretch-outside len at n h = rw h

-- an answer of `has_room` for n bytes, said of m that are as many
pub tested : (len at n m : ℕ) {t u : Bool} → n ≡ m → t ≡ fits len at n → t ≡ u → fits len at m ≡ u
tested len at n m e h k = ap (fits len at) (sym e) ∙ sym h ∙ k

-- a stretch that has an end lies in the slice
pub stretch-inside : (len at n end : ℕ) → stretch len at n ≡ Some end → (at ≤ end) × (end ≤ len)
stretch-inside len at n end e = go (fits len at n) refl
  where
    go : (t : Bool) → fits len at n ≡ t → (at ≤ end) × (end ≤ len)
    go true f =
        let g : at + n ≡ end = cc (stretch-to len at n f) in
        let h = room len at n refl f in
        (omega arith, omega arith)
    go false f = let z : ◌≡◌ {A = ℕ} 0 1 = cc (stretch-outside len at n f) in absurd (omega arith)
