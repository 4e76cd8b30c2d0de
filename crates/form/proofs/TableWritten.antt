-- What a table writes is in the written form.
use Rattle.std.specs.Prelude.{None, Some}
use Prim.Native.Nat.{ℕ, ◌≤◌, ◌<◌}
use mathlib.Core.Path.{◌≡◌, refl, ap, ◌∙◌}
use mathlib.Core.List.{List, [], ◌∷◌, ◌++◌}
use mathlib.Core.Bool.{true, false, not}
use native.Mathlib.Omega.{arith}
use borrow.Author.Tests.{lt-ltb, le-leb}
use Rattle.buffer.proofs.Tests.{split}
use Rattle.protobuf.specs.Each.{Each}
use Rattle.protobuf.proofs.EachLaws.{each_all, each-so, each_both, each_append, each_over}
use Rattle.form.specs.Form.{is_list, repeats, ascending, is_shortest, form_by, fits_kind, is_known, in_form}
use Rattle.tables.specs.Statements.{Ordered}
use Rattle.tables.specs.Table.{Kind, uint32, bool, bytes, string, strings, message, messages, Table, end, row, Value, Values, Content, write_by}
use Rattle.tables.proofs.TableContents.{kind_fields, fields_in, Of, Above, kind-number, table-numbers, FitRow, Fit, first_fits, rest-fits, held_fits, each_fits, written-whole}
use Rattle.tables.proofs.TableFields.{bytes_content}
use Rattle.form.proofs.TableForm.{Passes, tests-form, known-row, known-later, Agrees, agrees-row, agrees-later, Single}

-- a row has one field at most where it is not a list
single : (k : Kind) (n : ℕ) (v : Value k) → is_list k ≡ false → Single (kind_fields k n v)
unfolding kind_fields
single uint32 n None h = tt
single uint32 n (Some x) h = tt
single bool n None h = tt
single bool n (Some x) h = tt
single bytes n None h = tt
single bytes n (Some x) h = tt
single string n None h = tt
single string n (Some x) h = tt
single strings n v h = let z : ◌≡◌ {A = ℕ} 0 1 = cc in absurd (omega arith)
single (message T) n None h = tt
single (message T) n (Some x) h = tt
single (messages T) n v h = let z : ◌≡◌ {A = ℕ} 0 1 = cc in absurd (omega arith)

-- ascending: the fields of a row, and behind them those of later rows
module _ (all : Table) (n : ℕ) (rest : List Content) (later : (b : ℕ) → b ≤ n → ascending all b rest ≡ true) where
  list-ascends : repeats all n ≡ true → (b : ℕ) (l : List Content) → b ≤ n → Each (Of n) l → ascending all b (l ++ rest) ≡ true
  unfolding ascending
  list-ascends r b [] h e = later b h
  list-ascends r b (f ∷ l) h e = rw (e.0.0, r, le-leb b n h) (list-ascends r n l (omega arith) e.1)

  one-ascends : repeats all n ≡ false → (b : ℕ) (l : List Content) → b < n → Single l → Each (Of n) l → ascending all b (l ++ rest) ≡ true
  unfolding ascending
  one-ascends r b [] h s e = later b (omega arith)
  one-ascends r b (f ∷ []) h s e = rw (e.0.0, r, lt-ltb b n h) (later n (omega arith))
  one-ascends r b (f ∷ g ∷ l) h s e = absurd s

table-ascends : (T all : Table) (b from : ℕ) (v : Values T) → from ≤ b → Ordered b T → Agrees b all T → ascending all from (fields_in T v) ≡ true
unfolding fields_in ascending
table-ascends end all b from v h o g = refl
table-ascends (row n k T) all b from v h o g =
    let here = kind_fields k n v.0 in
    let rest = fields_in T v.1 in
    let later : (c : ℕ) → c ≤ n → ascending all c rest ≡ true = λ c l. table-ascends T all n c v.1 l o.3 (agrees-later k all T o.0 g) in
    let same = agrees-row k all T o.0 g in
    split (is_list k) (λ e. list-ascends all n rest later (same ∙ e) from here (omega arith) (kind-number k n v.0))
    (λ e. one-ascends all n rest later (same ∙ e) from here (omega arith) (single k n v.0 e) (kind-number k n v.0))

-- a written message is in the form where its fields are known
message-formed : (T : Table) (v : Values T) → Fit 0 T v → Each (Passes (is_known T)) (fields_in T v) → form_by T (is_known T) (write_by T v) ≡ true
message-formed T v w p =
    let r = written-whole T v w in
    tests-form T (is_known T) (write_by T v)
    (record {
      whole = r.1;
      ascends = rw r.0 (table-ascends T T 0 0 v (omega arith) w.ordered (λ m l. refl));
      short = rw r.0 (each-so (Above 0) (Passes is_shortest) (λ f e. ap not e.1) (fields_in T v) (table-numbers T 0 v w.ordered));
      knows = rw r.0 p;
    })

mutual
  unfolding kind_fields fields_in fits_kind

  kind-known : (k : Kind) (n : ℕ) (v : Value k) → FitRow n k v → Each (Passes (fits_kind k)) (kind_fields k n v)
  kind-known uint32 n None w = tt
  kind-known uint32 n (Some x) w = (lt-ltb x _ (let z = w.small in omega arith), tt)
  kind-known bool n None w = tt
  kind-known bool n (Some true) w = (refl, tt)
  kind-known bool n (Some false) w = (refl, tt)
  kind-known bytes n None w = tt
  kind-known bytes n (Some bs) w = (refl, tt)
  kind-known string n None w = tt
  kind-known string n (Some bs) w = (refl, tt)
  kind-known strings n v w = each_over (Passes (fits_kind strings)) (bytes_content n) v (each_all _ (λ bs. refl) v)
  kind-known (message T) n None w = tt
  kind-known (message T) n (Some m) w = (message-formed T m (held_fits w) (table-known T 0 m (held_fits w)), tt)
  kind-known (messages T) n v w =
      each_over (Passes (fits_kind (messages T))) (λ (m : Values T). bytes_content n (write_by T m)) v
      (each-so (Fit 0 T) (λ (m : Values T). form_by T (is_known T) (write_by T m) ≡ true) (λ m f. message-formed T m f (table-known T 0 m f)) v (each_fits n T v w))

  table-known : (T : Table) (b : ℕ) (v : Values T) → Fit b T v → Each (Passes (is_known T)) (fields_in T v)
  table-known end b v w = tt
  table-known (row n k T) b v w =
      let here = kind_fields k n v.0 in
      let rest = fields_in T v.1 in
      each_append (Passes (is_known (row n k T))) here rest
      (each_both (Of n) (Passes (fits_kind k)) (Passes (is_known (row n k T))) (λ f e h. known-row n k T f e.0 ∙ h) here (kind-number k n v.0) (kind-known k n v.0 (first_fits w)))
      (each_both (Above n) (Passes (is_known T)) (Passes (is_known (row n k T))) (λ f e h. known-later n k T f (omega arith) ∙ h) rest (table-numbers T n v.1 w.ordered.3)
      (table-known T n v.1 (rest-fits w)))

pub written-form : (T : Table) (v : Values T) → Fit 0 T v → in_form T (write_by T v) ≡ true
unfolding in_form
written-form T v w = message-formed T v w (table-known T 0 v w)
