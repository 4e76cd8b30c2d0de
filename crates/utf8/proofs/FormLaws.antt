-- Laws of the forms of a character: they ascend, so a byte begins the one in whose range it lies.
use Rattle.std.specs.Prelude.{Some}
use Prim.Native.Nat.{ℕ, zero, suc, ◌≤◌, ◌<◌}
use mathlib.Core.Path.{◌≡◌, ◌∙◌}
use mathlib.Core.List.{List, [], ◌∷◌}
use mathlib.Core.Bool.{true, false}
use native.Mathlib.Omega.{arith}
use borrow.Author.Tests.{le-leb, lt-leb}
use lib.ListN.{length, get_or}
use Rattle.utf8.specs.Utf8.{Range, within, Form, form, tail, forms, behind, after, utf8_from, is_utf8}

-- a byte in a range, and above it
pub within_in : (r : Range) (b : ℕ) → r.low ≤ b → b ≤ r.high → within r b ≡ true
within_in r b p q = rw (le-leb r.low b p, le-leb b r.high q)

pub within-above : (r : Range) (b : ℕ) → r.low ≤ b → r.high < b → within r b ≡ false
within-above r b p q = rw (le-leb r.low b p, lt-leb b r.high q)

-- each form begins above the one before it
abbrev pub Ascends : ℕ → List Form → Type 0
Ascends m [] = Unit {0}
Ascends m (f ∷ fs) = (m ≤ f.first.low) × (f.first.low ≤ f.first.high) × Ascends (suc f.first.high) fs

pub ascends : Ascends 0 forms
ascends =
    (omega arith, omega arith, (omega arith, omega arith, (omega arith, omega arith, (omega arith, omega arith, (omega arith, omega arith, (omega arith, omega arith, (omega arith, omega arith, (omega arith, omega arith, (omega arith, omega arith, tt)))))))))

module _ (b : ℕ) where
  pub behind-here : (f : Form) (fs : List Form) → f.first.low ≤ b → b ≤ f.first.high → behind b (f ∷ fs) ≡ Some f.rest
  unfolding behind
  behind-here f fs p q = rw (within_in f.first b p q)

  pub behind-later : (f : Form) (fs : List Form) → f.first.low ≤ b → f.first.high < b → behind b (f ∷ fs) ≡ behind b fs
  unfolding behind
  behind-later f fs p q = rw (within-above f.first b p q)

-- the form of a number in a list
abbrev pub form_at : List Form → ℕ → Form
form_at fs k = get_or fs k (form tail [])

at_above : (fs : List Form) (m k : ℕ) → Ascends m fs → k < length fs → m ≤ (form_at fs k).first.low
at_above [] m k a h = absurd (omega arith)
at_above (f ∷ fs) m zero a h = a.0
at_above (f ∷ fs) m (suc k) a h = omega (arith, a.0, a.1, at_above fs (suc f.first.high) k a.2 (omega arith))

-- the byte in a form's range begins that form
at-behind : (b : ℕ) (fs : List Form) (m k : ℕ) → Ascends m fs → k < length fs → (form_at fs k).first.low ≤ b → b ≤ (form_at fs k).first.high
    → behind b fs ≡ Some (form_at fs k).rest
at-behind b [] m k a h p q = absurd (omega arith)
at-behind b (f ∷ fs) m zero a h p q = behind-here b f fs p q
at-behind b (f ∷ fs) m (suc k) a h p q =
    let z = at_above fs (suc f.first.high) k a.2 (omega arith) in
    behind-later b f fs (omega (arith, a.1)) (omega arith) ∙ at-behind b fs (suc f.first.high) k a.2 (omega arith) p q

pub form-behind : (b k : ℕ) → k < 9 → (form_at forms k).first.low ≤ b → b ≤ (form_at forms k).first.high → behind b forms ≡ Some (form_at forms k).rest
form-behind b k h p q = at-behind b forms 0 k ascends h p q

-- a byte below 80 is a character of its own
pub utf8-single : (b : ℕ) (s : List ℕ) → b ≤ 0x7F → is_utf8 (b ∷ s) ≡ is_utf8 s
unfolding is_utf8 utf8_from after
utf8-single b s h = rw (form-behind b 0 (omega arith) (omega arith) h)
