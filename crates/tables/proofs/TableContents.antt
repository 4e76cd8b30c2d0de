-- What a message that a table writes reads as: the contents of its rows, one after the other.
use Rattle.std.specs.Prelude.{None, Option, Some}
use Prim.Native.Nat.{ℕ, ◌+◌, ◌*◌, ◌^◌, ◌<◌}
use mathlib.Core.Path.{◌≡◌, refl, ap, ◌∙◌}
use mathlib.Core.List.{List, [], ◌∷◌, ◌++◌, map, append-nil, append_assoc}
use mathlib.Core.Bool.{Bool, true, false}
use native.Mathlib.Omega.{arith}
use lib.ListN.{length, length-append}
use Rattle.buffer.specs.Walk.{Walked}
use Rattle.varint.proofs.Laws.{delimited-length}
use Rattle.protobuf.specs.Field.{fields}
use Rattle.protobuf.specs.Each.{Each}
use Rattle.tables.specs.Statements.{SmallValue, Small, OrderedKind, Ordered}
use Rattle.tables.specs.Table.{Kind, uint32, bool, bytes, string, strings, message, messages, Table, end, row, Value, Values, Content, contents, flag_number, written, write_by}
use Rattle.protobuf.specs.Write.{if_any, each, bytes_field}
use Rattle.protobuf.proofs.EachLaws.{each-so, each_append, each_map}
use Rattle.protobuf.proofs.FieldLaws.{fields-end}
use Rattle.tables.proofs.TableFields.{number_content, bytes_content, read_from, before, Spells, spells-number, spells-bytes}

spells-none : Spells [] []
spells-none short front rest = rw (append-nil front)

spells-append : (a b : List ℕ) (x y : List Content) → Spells a x → Spells b y → Spells (a ++ b) (x ++ y)
spells-append a b x y p q short front rest =
    let n = length-append a b in
    ap (λ (l : List ℕ). read_from (front ++ l) (length front)) (append_assoc a b rest) ∙ p (omega arith) front (b ++ rest)
    ∙ ap (before x) (q (omega arith) (front ++ a) rest) ∙ simp append_assoc

spells-each : {A : Type 0} (write : A → List ℕ) (g : A → Content) (l : List A) → ((a : A) → Spells (write a) (g a ∷ [])) → Spells (each write l) (map g l)
unfolding each
spells-each write g [] h = spells-none
spells-each write g (a ∷ l) h = spells-append (write a) (each write l) (g a ∷ []) (map g l) (h a) (spells-each write g l h)

-- bytes that spell contents hold these and no more
spelt-whole : (bs : List ℕ) (cs : List Content) → Spells bs cs → length bs < 2 ^ 64 → read_from bs 0 ≡ record { items = cs; whole = true }
unfolding read_from
spelt-whole bs cs h short = simp append-nil at (h short [] []) ∙ rw (fields-end bs (length bs) (omega arith), append-nil cs)

-- the contents of a row and of a table's rows
abbrev listed : {A : Type 0} → Option A → List A
listed None = []
listed (Some a) = a ∷ []

unfoldable pub kind_fields : (k : Kind) → ℕ → Value k → List Content
kind_fields uint32 n v = map (number_content n) (listed v)
kind_fields bool n v = map (λ (b : Bool). number_content n (flag_number b)) (listed v)
kind_fields bytes n v = map (bytes_content n) (listed v)
kind_fields string n v = map (bytes_content n) (listed v)
kind_fields strings n v = map (bytes_content n) v
kind_fields (message T) n v = map (λ (m : Values T). bytes_content n (write_by T m)) (listed v)
kind_fields (messages T) n v = map (λ (m : Values T). bytes_content n (write_by T m)) v

unfoldable pub fields_in : (T : Table) → Values T → List Content
fields_in end v = []
fields_in (row n k T) v = kind_fields k n v.0 ++ fields_in T v.1

-- the numbers of the contents, none of which is padded
abbrev pub Of : ℕ → Content → Type 0
Of n f = (f.number ≡ n) × (f.padded ≡ false)

pub kind-number : (k : Kind) (n : ℕ) (v : Value k) → Each (Of n) (kind_fields k n v)
unfolding kind_fields
kind-number uint32 n v = each_map (Of n) (number_content n) (λ x. (refl, refl)) (listed v)
kind-number bool n v = each_map (Of n) (λ (b : Bool). number_content n (flag_number b)) (λ b. (refl, refl)) (listed v)
kind-number bytes n v = each_map (Of n) (bytes_content n) (λ bs. (refl, refl)) (listed v)
kind-number string n v = each_map (Of n) (bytes_content n) (λ bs. (refl, refl)) (listed v)
kind-number strings n v = each_map (Of n) (bytes_content n) (λ bs. (refl, refl)) v
kind-number (message T) n v = each_map (Of n) (λ (m : Values T). bytes_content n (write_by T m)) (λ m. (refl, refl)) (listed v)
kind-number (messages T) n v = each_map (Of n) (λ (m : Values T). bytes_content n (write_by T m)) (λ m. (refl, refl)) v

abbrev pub Above : ℕ → Content → Type 0
Above b f = (b < f.number) × (f.padded ≡ false)

pub table-numbers : (T : Table) (b : ℕ) (v : Values T) → Ordered b T → Each (Above b) (fields_in T v)
unfolding fields_in
table-numbers end b v o = tt
table-numbers (row n k T) b v o =
    each_append (Above b) (kind_fields k n v.0) (fields_in T v.1)
    (each-so (Of n) (Above b) (λ f e. (omega arith, e.1)) (kind_fields k n v.0) (kind-number k n v.0))
    (each-so (Above n) (Above b) (λ f e. (omega arith, e.1)) (fields_in T v.1) (table-numbers T n v.1 o.3))

spells-kind : (k : Kind) (n : ℕ) (v : Value k) → 0 < n → n < 2 ^ 29 → SmallValue k v → Spells (written k n v) (kind_fields k n v)
unfolding written if_any kind_fields
spells-kind uint32 n None h l s = spells-none
spells-kind uint32 n (Some x) h l s = spells-number n x h l (omega arith)
spells-kind bool n None h l s = spells-none
spells-kind bool n (Some true) h l s = spells-number n 1 h l (omega arith)
spells-kind bool n (Some false) h l s = spells-number n 0 h l (omega arith)
spells-kind bytes n None h l s = spells-none
spells-kind bytes n (Some bs) h l s = spells-bytes n bs h l
spells-kind string n None h l s = spells-none
spells-kind string n (Some bs) h l s = spells-bytes n bs h l
spells-kind strings n v h l s = spells-each (bytes_field n) (bytes_content n) v (λ bs. spells-bytes n bs h l)
spells-kind (message T) n None h l s = spells-none
spells-kind (message T) n (Some m) h l s = spells-bytes n (write_by T m) h l
spells-kind (messages T) n v h l s =
    spells-each (λ (m : Values T). bytes_field n (write_by T m)) (λ (m : Values T). bytes_content n (write_by T m)) v (λ m. spells-bytes n (write_by T m) h l)

spells_table : (T : Table) (b : ℕ) (v : Values T) → Ordered b T → Small T v → Spells (write_by T v) (fields_in T v)
unfolding write_by fields_in
spells_table end b v o s = spells-none
spells_table (row n k T) b v o s =
    spells-append (written k n v.0) (write_by T v.1) (kind_fields k n v.0) (fields_in T v.1)
    (spells-kind k n v.0 (omega arith) o.1 s.0) (spells_table T n v.1 o.3 s.1)

-- values that fit their row, and their table
pub record FitRow (n : ℕ) (k : Kind) (v : Value k) : Type 0 where
  pub ordered : OrderedKind k
  pub small : SmallValue k v
  pub short : length (written k n v) < 2 ^ 64

pub record Fit (b : ℕ) (T : Table) (v : Values T) : Type 0 where
  pub ordered : Ordered b T
  pub small : Small T v
  pub short : length (write_by T v) < 2 ^ 64

module _ {b n : ℕ} {k : Kind} {T : Table} {v : Values (row n k T)} (w : Fit b (row n k T) v) where
  pub first_fits : FitRow n k v.0
  unfolding write_by
  first_fits = let e = length-append (written k n v.0) (write_by T v.1) in record { ordered = w.ordered.2; small = w.small.0; short = omega arith }

  pub rest-fits : Fit n T v.1
  unfolding write_by
  rest-fits = let e = length-append (written k n v.0) (write_by T v.1) in record { ordered = w.ordered.3; small = w.small.1; short = omega arith }

pub held_fits : {n : ℕ} {T : Table} {m : Values T} → FitRow n (message T) (Some m) → Fit 0 T m
unfolding written if_any bytes_field
held_fits {n} {T} {m} w = let e = delimited-length (n * 8 + 2) (write_by T m) in record { ordered = w.ordered; small = w.small; short = omega arith }

pub each_fits : (n : ℕ) (T : Table) (l : List (Values T)) → FitRow n (messages T) l → Each (Fit 0 T) l
unfolding written each bytes_field
each_fits n T [] w = tt
each_fits n T (m ∷ l) w =
    let e = length-append (bytes_field n (write_by T m)) (written (messages T) n l) in
    let f = delimited-length (n * 8 + 2) (write_by T m) in (
      record { ordered = w.ordered; small = w.small.0; short = omega arith },
      each_fits n T l (record { ordered = w.ordered; small = w.small.1; short = omega arith }),
    )

-- a written message reads as the contents of the table's rows
pub written-whole : (T : Table) (v : Values T) → Fit 0 T v → (contents (write_by T v) ≡ fields_in T v) × ((fields (write_by T v)).whole ≡ true)
unfolding contents read_from
written-whole T v w =
    let e = spelt-whole (write_by T v) (fields_in T v) (spells_table T 0 v w.ordered w.small) w.short in
    (ap (λ (r : Walked Content). r.items) e, ap (λ (r : Walked Content). r.whole) e)
