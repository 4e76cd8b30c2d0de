-- Laws of the one pass: what a byte leaves of a character, and of the bytes behind it.
use Rattle.std.specs.Prelude.{None, Some}
use Prim.Native.Nat.{ℕ, ◌+◌, ◌-◌, ◌≤◌, ◌<◌}
use mathlib.Core.Path.{◌≡◌, refl}
use mathlib.Core.List.{List, [], ◌∷◌}
use mathlib.Core.Bool.{Bool, true, false}
use native.Mathlib.Numerals.{add-one}
use native.Mathlib.Omega.{arith}
use borrow.Author.Tests.{eq-eqb}
use lib.Dec.{eqb}
use lib.ListN.{length, get_or, drop, replicate, drop_of_length-le}
use lib.Seq.{drop-cons}
use Rattle.buffer.specs.Pick.{pick}
use Rattle.utf8.specs.Pass.{owed}
use Rattle.utf8.specs.Utf8.{Range, to, tail, after, utf8_from, is_utf8}
use Rattle.utf8.specs.declared.Rest.{Rest}
use Rattle.utf8.proofs.FormLaws.{form-behind}

-- so many tails
abbrev pub tails : ℕ → Rest
tails n = record { count = n; low = 0x80; high = 0xBF }

-- the bytes from place i on
module _ (rs : List Range) (s : List ℕ) (i : ℕ) where
  pub from-left : (left : List Range) → i < length s → after rs (get_or s i 0) ≡ Some left → utf8_from rs (drop i s) ≡ utf8_from left (drop (i + 1) s)
  unfolding utf8_from
  from-left left h e = rw (add-one, drop-cons s i 0 h, e)

  pub from-malformed : i < length s → after rs (get_or s i 0) ≡ None → utf8_from rs (drop i s) ≡ false
  unfolding utf8_from
  from-malformed h e = rw (drop-cons s i 0 h, e)

-- a byte below 80 where no character was begun leaves it so
pub from-single : (r : Rest) (s : List ℕ) (i : ℕ) → i < length s → r.count ≡ 0 → get_or s i 0 < 0x80
    → utf8_from (owed r) (drop i s) ≡ utf8_from (owed r) (drop (i + 1) s)
unfolding owed after
from-single r s i h e b =
    rw (eq-eqb r.count 0 e) (from-left [] s i [] h (form-behind (get_or s i 0) 0 (omega arith) (omega arith) (omega arith)))

pub from_start : (s : List ℕ) → is_utf8 s ≡ utf8_from (owed (tails 0)) (drop 0 s)
unfolding is_utf8 owed
from_start s = refl

pub from_end : (r : Rest) (s : List ℕ) (i : ℕ) → length s ≤ i → utf8_from (owed r) (drop i s) ≡ eqb r.count 0
unfolding utf8_from owed
from_end r s i h = rw (drop_of_length-le s {i = i} h) (go (eqb r.count 0))
  where
    go : (t : Bool) → utf8_from (pick t [] (to r.low r.high ∷ replicate (r.count - 1) tail)) [] ≡ t
    go true = refl
    go false = refl

-- the one pass, step by step
pub ruleset pass_steps = (from_start, from-single, from-malformed, from-left, from_end)
