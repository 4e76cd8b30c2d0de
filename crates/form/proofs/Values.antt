-- A row's value goes by the fields of its own number.
use Prim.Native.Nat.{ℕ, ◌≤◌}
use mathlib.Core.Path.{◌≡◌, refl}
use mathlib.Core.List.{List, [], ◌∷◌, ◌++◌, append-nil}
use borrow.Author.Tests.{ne_eqb}
use Rattle.protobuf.specs.Each.{Each}
use Rattle.tables.specs.Table.{Kind, uint32, bool, bytes, string, strings, message, messages, Content, alike, value_of}
use Rattle.tables.proofs.TableValues.{alike-append}

-- contents of other numbers
abbrev pub UpTo : ℕ → Content → Type 0
UpTo b f = f.number ≤ b

abbrev pub Other : ℕ → Content → Type 0
Other n f = f.number ≡ n → ⊥

-- which fields are alike
module _ (n w : ℕ) where
  alike-none : (l : List Content) → Each (Other n) l → alike n w l ≡ []
  unfolding alike
  alike-none [] h = refl
  alike-none (f ∷ l) h = rw (ne_eqb f.number n h.0) (alike-none l h.1)

  pub alike-amid : (l m r : List Content) → Each (Other n) l → Each (Other n) r
      → alike n w (l ++ (m ++ r)) ≡ alike n w m
  alike-amid l m r h k = rw (alike-append n w l (m ++ r), alike-append n w m r, alike-none l h, alike-none r k) (append-nil (alike n w m))

pub value-alike : (k : Kind) (n : ℕ) (l m : List Content) → ((w : ℕ) → alike n w l ≡ alike n w m) → value_of k n l ≡ value_of k n m
unfolding value_of
value-alike uint32 n l m h = rw (h 0)
value-alike bool n l m h = rw (h 0)
value-alike bytes n l m h = rw (h 2)
value-alike string n l m h = rw (h 2)
value-alike strings n l m h = rw (h 2)
value-alike (message T) n l m h = rw (h 2)
value-alike (messages T) n l m h = rw (h 2)
