-- What `ascending` says of a field and of those behind it.
use Prim.Native.Nat.{ℕ, ◌≤◌, ◌<◌}
use mathlib.Core.Path.{◌≡◌, refl, sym, ◌∙◌}
use mathlib.Core.List.{List, ◌∷◌}
use mathlib.Core.Bool.{Bool, true, false, ◌&&◌, true≢false}
use native.Mathlib.Omega.{arith}
use borrow.Author.Tests.{leb-true, ltb-true}
use lib.Dec.{ltb, leb}
use Rattle.buffer.specs.Pick.{pick}
use Rattle.buffer.proofs.Tests.{both}
use Rattle.form.specs.Form.{repeats, ascending}
use Rattle.tables.specs.Table.{Table, Content}

-- from a field to the next: numbers never fall, and rise where a field does not repeat
pub record Rises (T : Table) (b : ℕ) (f : Content) (fs : List Content) : Type 0 where
  pub up : b ≤ f.number
  pub above : repeats T f.number ≡ false → b < f.number
  pub further : ascending T f.number fs ≡ true

pub rises : (T : Table) (b : ℕ) (f : Content) (fs : List Content) → ascending T b (f ∷ fs) ≡ true → Rises T b f fs
unfolding ascending
rises T b f fs h = go (repeats T f.number) refl h
  where
    go : (t : Bool) → repeats T f.number ≡ t → (pick t (leb b f.number) (ltb b f.number) && ascending T f.number fs) ≡ true → Rises T b f fs
    go true e q =
        let z = both (leb b f.number) (ascending T f.number fs) q in
        record { up = leb-true b f.number z.0; above = λ g. absurd (true≢false (sym e ∙ g)); further = z.1 }
    go false e q =
        let z = both (ltb b f.number) (ascending T f.number fs) q in
        let l = ltb-true b f.number z.0 in
        record { up = omega arith; above = λ g. l; further = z.1 }
