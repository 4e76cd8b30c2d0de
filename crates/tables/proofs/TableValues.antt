-- Reading by a table gives back the values that were written.
use Rattle.std.specs.Prelude.{None, Some}
use Prim.Native.Nat.{ℕ, ◌≤◌}
use mathlib.Core.Path.{◌≡◌, refl, sym, ap, ap₂, ◌∙◌}
use mathlib.Core.List.{List, [], ◌∷◌, ◌++◌, map, append-nil, append_assoc}
use mathlib.Core.Bool.{Bool, true, false}
use native.Mathlib.Omega.{arith}
use borrow.Author.Tests.{eq-eqb, ne_eqb}
use lib.Dec.{eqb}
use Rattle.buffer.specs.Pick.{pick}
use Rattle.protobuf.specs.Each.{Each}
use Rattle.tables.specs.Table.{Kind, uint32, bool, bytes, string, strings, message, messages, Table, end, row, Value, Values, Content, contents, alike, last_one, merged, where_any, as_bytes, value_of, values_of, write_by}
use Rattle.tables.proofs.TableContents.{kind_fields, fields_in, Of, Above, kind-number, table-numbers, FitRow, Fit, first_fits, rest-fits, held_fits, each_fits, written-whole}
use Rattle.protobuf.proofs.EachLaws.{each_all, each-so, each_append}
use Rattle.tables.proofs.TableFields.{bytes_content}

-- contents of other numbers
abbrev UpTo : ℕ → Content → Type 0
UpTo b f = f.number ≤ b

abbrev Other : ℕ → Content → Type 0
Other n f = f.number ≡ n → ⊥

-- which fields are alike
module _ (n w : ℕ) where
  pub alike-append : (l m : List Content) → alike n w (l ++ m) ≡ alike n w l ++ alike n w m
  unfolding alike
  alike-append [] m = refl
  alike-append (f ∷ l) m = go (eqb f.number n) (eqb f.wire w) (alike-append l m)
    where
      go : (t u : Bool) → alike n w (l ++ m) ≡ alike n w l ++ alike n w m
          → pick t (pick u (f ∷ alike n w (l ++ m)) (alike n w (l ++ m))) (alike n w (l ++ m)) ≡ pick t (pick u (f ∷ alike n w l) (alike n w l)) (alike n w l) ++ alike n w m
      go true true e = ap (λ (x : List Content). f ∷ x) e
      go true false e = e
      go false u e = e

  alike-none : (l : List Content) → Each (Other n) l → alike n w l ≡ []
  unfolding alike
  alike-none [] h = refl
  alike-none (f ∷ l) h = rw (ne_eqb f.number n h.0) (alike-none l h.1)

  alike-amid : (l m r : List Content) → Each (Other n) l → Each (Other n) r
      → alike n w (l ++ (m ++ r)) ≡ alike n w m
  alike-amid l m r h k = rw (alike-append l (m ++ r), alike-append m r, alike-none l h, alike-none r k) (append-nil (alike n w m))

value-alike : (k : Kind) (n : ℕ) (l m : List Content) → ((w : ℕ) → alike n w l ≡ alike n w m) → value_of k n l ≡ value_of k n m
unfolding value_of
value-alike uint32 n l m h = rw (h 0)
value-alike bool n l m h = rw (h 0)
value-alike bytes n l m h = rw (h 2)
value-alike string n l m h = rw (h 2)
value-alike strings n l m h = rw (h 2)
value-alike (message T) n l m h = rw (h 2)
value-alike (messages T) n l m h = rw (h 2)

-- the values of a nested message, and of each of a row's
pub nested-back : (T : Table) (v : Values T) → Fit 0 T v → values_of T (fields_in T v) ≡ v → values_of T (contents (write_by T v)) ≡ v
nested-back T v w e = ap (values_of T) (written-whole T v w).0 ∙ e

each_back : {A : Type 0} (n : ℕ) (g : A → List ℕ) (read : Content → A) (l : List A) → Each (λ (a : A). read (bytes_content n (g a)) ≡ a) l
    → map read (alike n 2 (map (λ (a : A). bytes_content n (g a)) l)) ≡ l
unfolding alike
each_back n g read [] h = refl
each_back n g read (a ∷ l) h = rw (eq-eqb n n refl) (ap₂ ◌∷◌ h.0 (each_back n g read l h.1))

mutual
  unfolding value_of kind_fields fields_in alike last_one where_any merged

  value-back : (k : Kind) (n : ℕ) (v : Value k) → FitRow n k v → value_of k n (kind_fields k n v) ≡ v
  value-back uint32 n None w = refl
  value-back uint32 n (Some x) w = rw (eq-eqb n n refl) (ap Some (omega arith))
  value-back bool n None w = refl
  value-back bool n (Some true) w = rw (eq-eqb n n refl)
  value-back bool n (Some false) w = rw (eq-eqb n n refl)
  value-back bytes n None w = refl
  value-back bytes n (Some bs) w = rw (eq-eqb n n refl)
  value-back string n None w = refl
  value-back string n (Some bs) w = rw (eq-eqb n n refl)
  value-back strings n v w = each_back n (λ (bs : List ℕ). bs) as_bytes v (each_all _ (λ bs. refl) v)
  value-back (message T) n None w = refl
  value-back (message T) n (Some m) w =
      rw (eq-eqb n n refl, append-nil (contents (write_by T m)))
      (ap Some (nested-back T m (held_fits w) (values-back T 0 [] m (held_fits w) tt)))
  value-back (messages T) n v w =
      each_back n (write_by T) (λ (f : Content). values_of T (contents f.bytes)) v
      (each-so (Fit 0 T) (λ (m : Values T). values_of T (contents (write_by T m)) ≡ m) (λ m f. nested-back T m f (values-back T 0 [] m f tt)) v (each_fits n T v w))

  pub values-back : (T : Table) (b : ℕ) (front : List Content) (v : Values T) → Fit b T v → Each (UpTo b) front → values_of T (front ++ fields_in T v) ≡ v
  values-back end b front v w below = refl
  values-back (row n k T) b front v w below =
      let here = kind_fields k n v.0 in
      let rest = fields_in T v.1 in
      ap₂ (λ (x : Value k) (y : Values T). (x, y))
      (value-alike k n (front ++ (here ++ rest)) here
      (λ u. alike-amid n u front here rest (each-so (UpTo b) (Other n) (λ f h. omega arith) front below)
      (each-so (Above n) (Other n) (λ f h. omega arith) rest (table-numbers T n v.1 w.ordered.3)))
      ∙ value-back k n v.0 (first_fits w))
      (ap (values_of T) (sym (append_assoc front here rest))
      ∙ values-back T n (front ++ here) v.1 (rest-fits w)
      (each_append (UpTo n) front here (each-so (UpTo b) (UpTo n) (λ f h. omega arith) front below)
      (each-so (Of n) (UpTo n) (λ f h. omega arith) here (kind-number k n v.0))))
