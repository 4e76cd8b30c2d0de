-- Messages that a table writes can be read by the table, and are not padded.
use Rattle.std.specs.Prelude.{None, Some}
use Prim.Native.Nat.{ℕ, zero, suc, ◌≤◌}
use mathlib.Core.Path.{◌≡◌, refl}
use mathlib.Core.List.{List, [], ◌∷◌}
use mathlib.Core.Bool.{Bool, true, false, ◌||◌}
use native.Mathlib.Omega.{arith}
use borrow.Author.Tests.{eq-eqb, ne_eqb}
use Rattle.protobuf.specs.Each.{Each}
use Rattle.utf8.specs.Utf8.{is_utf8}
use Rattle.tables.specs.Statements.{kind_levels, levels, StringsOf, StringsIn, Texts}
use Rattle.tables.specs.Table.{Kind, uint32, bool, bytes, string, strings, message, messages, Table, end, row, Value, Values, Content, held_tells, field_tells, all_readable, readable_to, never, any_padded, padded_to, write_by}
use Rattle.tables.proofs.TableContents.{kind_fields, fields_in, Of, Above, kind-number, table-numbers, FitRow, Fit, first_fits, rest-fits, held_fits, each_fits, written-whole}
use Rattle.protobuf.proofs.EachLaws.{each_both, each_append, each_over, each_all}
use Rattle.tables.proofs.TableFields.{bytes_content}

pub levels-some : (T : Table) → 1 ≤ levels T
levels-some end = omega arith
levels-some (row n k T) = omega arith

-- what the texts and messages tell that fields hold is what is told of a field that holds none
module _ (nothing : Bool) (text : List ℕ → Bool) (read : Table → List ℕ → Bool) where
  abbrev pub ByKind : Kind → Content → Type 0
  ByKind k f = held_tells nothing text read k f ≡ nothing

  abbrev pub ByTable : Table → Content → Type 0
  ByTable T f = field_tells nothing text read T f ≡ nothing

  -- the field of a row, and of a later one
  by_row : (n : ℕ) (k : Kind) (T : Table) (f : Content) → Of n f → ByKind k f → ByTable (row n k T) f
  unfolding field_tells
  by_row n k T f e h = rw (eq-eqb f.number n e.0) h

  by-later : (n : ℕ) (k : Kind) (T : Table) (f : Content) → Above n f → ByTable T f → ByTable (row n k T) f
  unfolding field_tells
  by-later n k T f l h = rw (ne_eqb f.number n (omega arith)) h

-- one law for both: what is told of a written message, where its texts tell that and its fields tell that of it with a level less
module _ (nothing : Bool) (text : List ℕ → Bool) (read_to : ℕ → Table → List ℕ → Bool)
    (more : (d : ℕ) (T : Table) (v : Values T) → Fit 0 T v → Each (ByTable nothing text (read_to d) T) (fields_in T v)
    → read_to (suc d) T (write_by T v) ≡ nothing) where
  abbrev Told : List ℕ → Type 0
  Told bs = text bs ≡ nothing

  message-tells : (d : ℕ) (T : Table) (v : Values T) → levels T ≤ d → Fit 0 T v
      → ((e : ℕ) → levels T ≤ suc e → Each (ByTable nothing text (read_to e) T) (fields_in T v)) → read_to d T (write_by T v) ≡ nothing
  message-tells zero T v l w h = absurd (let z = levels-some T in omega arith)
  message-tells (suc d) T v l w h = more d T v w (h d l)

  mutual
    unfolding kind_fields fields_in held_tells

    kind-tells : (k : Kind) (d n : ℕ) (v : Value k) → kind_levels k ≤ d → FitRow n k v → StringsOf Told k v
        → Each (ByKind nothing text (read_to d) k) (kind_fields k n v)
    kind-tells uint32 d n v l w x = each_all (ByKind nothing text (read_to d) uint32) (λ f. refl) (kind_fields uint32 n v)
    kind-tells bool d n v l w x = each_all (ByKind nothing text (read_to d) bool) (λ f. refl) (kind_fields bool n v)
    kind-tells bytes d n v l w x = each_all (ByKind nothing text (read_to d) bytes) (λ f. refl) (kind_fields bytes n v)
    kind-tells string d n None l w x = tt
    kind-tells string d n (Some bs) l w x = (x, tt)
    kind-tells strings d n v l w x = each_over (ByKind nothing text (read_to d) strings) (bytes_content n) v x
    kind-tells (message T) d n None l w x = tt
    kind-tells (message T) d n (Some m) l w x = (message-tells d T m l (held_fits w) (λ e k. table-tells T e 0 m k (held_fits w) x), tt)
    kind-tells (messages T) d n v l w x =
        each_over (ByKind nothing text (read_to d) (messages T)) (λ (m : Values T). bytes_content n (write_by T m)) v
        (each_both (Fit 0 T) (StringsIn Told T) (λ (m : Values T). read_to d T (write_by T m) ≡ nothing)
        (λ m f y. message-tells d T m l f (λ e k. table-tells T e 0 m k f y)) v (each_fits n T v w) x)

    table-tells : (T : Table) (d b : ℕ) (v : Values T) → levels T ≤ suc d → Fit b T v → StringsIn Told T v
        → Each (ByTable nothing text (read_to d) T) (fields_in T v)
    table-tells end d b v l w x = tt
    table-tells (row n k T) d b v l w x =
        let here = kind_fields k n v.0 in
        let rest = fields_in T v.1 in
        let P = ByTable nothing text (read_to d) (row n k T) in
        each_append P here rest
        (each_both (Of n) (ByKind nothing text (read_to d) k) P (by_row nothing text (read_to d) n k T) here (kind-number k n v.0)
        (kind-tells k d n v.0 (omega arith) (first_fits w) x.0))
        (each_both (Above n) (ByTable nothing text (read_to d) T) P (by-later nothing text (read_to d) n k T) rest
        (table-numbers T n v.1 w.ordered.3) (table-tells T d n v.1 (omega arith) (rest-fits w) x.1))

  pub written-tells : (d : ℕ) (T : Table) (v : Values T) → levels T ≤ d → Fit 0 T v → StringsIn Told T v → read_to d T (write_by T v) ≡ nothing
  written-tells d T v l w x = message-tells d T v l w (λ e k. table-tells T e 0 v k w x)

-- readable: a message whose fields are
all-readable : (read : Table → List ℕ → Bool) (T : Table) (l : List Content) → Each (ByTable true is_utf8 read T) l → all_readable read T l ≡ true
unfolding all_readable
all-readable read T [] h = refl
all-readable read T (f ∷ l) h = rw h.0 (all-readable read T l h.1)

pub written-readable : (d : ℕ) (T : Table) (v : Values T) → levels T ≤ d → Fit 0 T v → Texts T v → readable_to d T (write_by T v) ≡ true
unfolding readable_to
written-readable =
    written-tells true is_utf8 readable_to
    (λ d T v w h. let r = written-whole T v w in rw (r.1, r.0) (all-readable (readable_to d) T (fields_in T v) h))

-- padded: none of the written fields is
none_of : (a b c : Bool) → a ≡ false → b ≡ false → c ≡ false → ((a || b) || c) ≡ false
none_of a b c p q r = rw (p, q) r

none-padded : (read : Table → List ℕ → Bool) (T : Table) (l : List Content) → Each (Above 0) l → Each (ByTable false never read T) l → any_padded read T l ≡ false
unfolding any_padded
none-padded read T [] p h = refl
none-padded read T (f ∷ l) p h =
    none_of f.padded (field_tells false never read T f) (any_padded read T l) p.0.1 h.0 (none-padded read T l p.1 h.1)

-- what holds of every string holds of those of a message
module _ (P : List ℕ → Type 0) (h : (bs : List ℕ) → P bs) where
  mutual
    strings-of : (k : Kind) (v : Value k) → StringsOf P k v
    strings-of uint32 v = tt
    strings-of bool v = tt
    strings-of bytes v = tt
    strings-of string None = tt
    strings-of string (Some bs) = h bs
    strings-of strings v = each_all P h v
    strings-of (message T) None = tt
    strings-of (message T) (Some m) = strings-in T m
    strings-of (messages T) v = each_all (StringsIn P T) (λ m. strings-in T m) v

    strings-in : (T : Table) (v : Values T) → StringsIn P T v
    strings-in end v = tt
    strings-in (row n k T) v = (strings-of k v.0, strings-in T v.1)

pub written-unpadded : (d : ℕ) (T : Table) (v : Values T) → levels T ≤ d → Fit 0 T v → padded_to d T (write_by T v) ≡ false
unfolding padded_to
written-unpadded d T v l w =
    written-tells false never padded_to
    (λ d T v w h. rw (written-whole T v w).0 (none-padded (padded_to d) T (fields_in T v) (table-numbers T 0 v w.ordered) h))
    d T v l w (strings-in (λ (bs : List ℕ). never bs ≡ false) (λ bs. refl) T v)
