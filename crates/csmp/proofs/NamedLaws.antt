-- Laws of what the statements about readers share: a number that is a time is the number, and a size is that of the bytes at a place.
use Rattle.std.specs.Prelude.{None, Option, Some}
use Prim.Native.Nat.{ℕ, ◌-◌}
use mathlib.Core.Path.{◌≡◌, refl, ap}
use mathlib.Core.List.{List}
use native.Mathlib.Omega.{arith}
use lib.Dec.{leb}
use lib.ListN.{length, take, drop, length-take, length-drop}
use Rattle.protobuf.specs.Given.{bytes_given}
use Rattle.tables.proofs.TableLies.{Lies}
use Rattle.csmp.specs.Named.{moment_given, interval_given, short}
use Rattle.csmp.specs.Values.{moment_of, moment_number, interval_of, interval_number, at_most}
use Rattle.protobuf.specs.declared.Span.{Span}
use Rattle.schedule.specs.declared.Length.{Length}

pub moment-back : (n : Option ℕ) → moment_given (moment_of n) ≡ n
unfolding moment_of moment_number
moment-back (Some t) = refl
moment-back None = refl

pub interval-back : (n : Option ℕ) → interval_given (interval_of n) ≡ n
unfolding interval_of interval_number
interval-back (Some t) = refl
interval-back None = refl

-- an interval is told by its number
pub interval-same : (i j : Option Length) → interval_given i ≡ interval_given j → i ≡ j
unfolding interval_number
interval-same (Some l) (Some m) h = let e : l.0 ≡ m.0 = cc in ap (λ (n : ℕ). Some (record { 0 = n })) e
interval-same (Some l) None h = let z : ◌≡◌ {A = ℕ} 0 1 = cc in absurd (omega arith)
interval-same None (Some m) h = let z : ◌≡◌ {A = ℕ} 0 1 = cc in absurd (omega arith)
interval-same None None h = refl

-- bytes that lie in a value are as long as their place
pub at-most-short : (n : ℕ) (v : List ℕ) (b : Option Span) → Lies v b → at_most n b ≡ short n (bytes_given v b)
unfolding at_most
at-most-short n v (Some w) h =
    let x = length-take (w.end - w.start) (drop w.start v) in
    let y = length-drop w.start v in
    let z : w.end - w.start ≡ length (take (w.end - w.start) (drop w.start v)) = omega arith in
    ap (λ (k : ℕ). leb k n) z
at-most-short n v None h = refl
