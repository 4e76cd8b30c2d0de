-- Laws of waiting.
use Prim.Native.Nat.{ℕ, ◌+◌, ◌*◌, ◌-◌, ◌/◌, ◌%◌, ◌≤◌, ◌<◌}
use mathlib.Core.Path.{◌≡◌, refl}
use mathlib.Core.Bool.{true, false}
use native.Mathlib.Omega.{arith}
use native.Mathlib.Nat.{mod-lt, mod-le}
use borrow.Author.Tests.{lt-ltb, le-ltb}
use Rattle.schedule.specs.declared.Length.{Length}
use Rattle.state.specs.declared.Device.{Device}
use Rattle.state.specs.declared.Registration.{Registration}
use Rattle.registration.specs.declared.wait.Schedule.{Schedule}
use Rattle.registration.specs.Backoff.{first_wait, half_up, backoff_of, rest_of, doubled, advanced_of, intervals, Samples}

module _ (d : Device) (r : Registration) (random : ℕ) where
  pub wait-none : r.immediate ≡ true → first_wait d r random ≡ record { 0 = 0 }
  unfolding first_wait
  wait-none h = rw h

  pub wait-some : r.immediate ≡ false → first_wait d r random ≡ record { 0 = random % (d.interval_min.0 + 1) }
  unfolding first_wait
  wait-some h = rw h

-- a remainder is not above its number, and below what it is a remainder by
pub rem-most : (a m : ℕ) → a % m ≤ a
rem-most a m = mod-le a m

pub rem_below : (a m : ℕ) → a % (m + 1) ≤ m
rem_below a m = let z : a % (m + 1) < m + 1 = mod-lt a (omega arith) in omega arith

pub half-sum : (n : ℕ) → n / 2 + n % 2 ≡ half_up n
unfolding half_up
half-sum n = omega arith

pub half-most : (n h : ℕ) → h ≡ half_up n → h ≤ n
unfolding half_up
half-most n h e = omega arith

pub backoff-is : (i : Length) (random h : ℕ) → h ≡ half_up i.0 → backoff_of i random ≡ record { 0 = h + random % (i.0 - h + 1) }
unfolding backoff_of
backoff-is i random h e = rw e

pub rest-none : (i w : Length) → i.0 < w.0 → rest_of i w ≡ record { 0 = 0 }
unfolding rest_of
rest-none i w h = let e : i.0 - w.0 ≡ 0 = omega arith in rw e

pub rest_some : (i w : Length) → rest_of i w ≡ record { 0 = i.0 - w.0 }
unfolding rest_of
rest_some i w = refl

module _ (i largest : Length) where
  pub doubled-below : i.0 * 2 < largest.0 → doubled i largest ≡ record { 0 = i.0 * 2 }
  unfolding doubled
  doubled-below h = rw (lt-ltb (i.0 * 2) largest.0 h)

  pub doubled-stops : largest.0 ≤ i.0 * 2 → doubled i largest ≡ largest
  unfolding doubled
  doubled-stops h = rw (le-ltb (i.0 * 2) largest.0 h)

pub advanced-is : (s : Schedule) (i : Length) → i ≡ doubled s.interval s.largest → record { interval = i; largest = s.largest } ≡ advanced_of s
unfolding advanced_of
advanced-is s i e = rw e

pub advanced-interval : (s : Schedule) → (advanced_of s).interval ≡ doubled s.interval s.largest
unfolding advanced_of
advanced-interval s = refl

pub samples-hold : Samples
unfolding intervals doubled
samples-hold = refl
