-- The strings of a value that can be read are text.
use Rattle.std.specs.Prelude.{None, Option, Some}
use Prim.Native.Nat.{ℕ, zero, suc, ◌<◌}
use mathlib.Core.Path.{◌≡◌, sym}
use mathlib.Core.List.{List, [], ◌∷◌}
use mathlib.Core.Bool.{Bool, true, true≢false}
use native.Mathlib.Omega.{arith}
use borrow.Author.Tests.{eq-eqb, ne_eqb, eqb-true}
use lib.Dec.{eqb}
use Rattle.buffer.specs.Pick.{pick}
use Rattle.buffer.proofs.Tests.{split, both}
use Rattle.protobuf.specs.Each.{IfAny, Each}
use Rattle.protobuf.specs.Field.{fields}
use Rattle.protobuf.proofs.EachLaws.{each-so, each_append, each_over}
use Rattle.utf8.specs.Utf8.{is_utf8, IsText}
use Rattle.tables.specs.Statements.{OrderedKind, Ordered, StringsOf, Texts, TextsRead}
use Rattle.tables.specs.Table.{Kind, uint32, bool, bytes, string, strings, message, messages, Table, end, row, Content, contents, alike, last_one, as_bytes, merged, where_any, value_of, values_of, read_by, held_tells, field_tells, all_readable, readable_to, readable}

-- a readable message: so are its fields
abbrev ByTable : ℕ → Table → Content → Type 0
ByTable d T f = field_tells true is_utf8 (readable_to d) T f ≡ true

all-by-table : (d : ℕ) (T : Table) (fs : List Content) → all_readable (readable_to d) T fs ≡ true → Each (ByTable d T) fs
unfolding all_readable
all-by-table d T [] h = tt
all-by-table d T (f ∷ fs) h = let t = both (field_tells true is_utf8 (readable_to d) T f) _ h in (t.0, all-by-table d T fs t.1)

-- those of a row, with its wire type
abbrev Among : ℕ → Kind → ℕ → Content → Type 0
Among d k n f = f.number ≡ n → held_tells true is_utf8 (readable_to d) k f ≡ true

abbrev Kept : ℕ → Kind → Content → Type 0
Kept d k f = (f.wire ≡ 2) × (held_tells true is_utf8 (readable_to d) k f ≡ true)

alike-kept : (d : ℕ) (k : Kind) (n : ℕ) (fs : List Content) → Each (Among d k n) fs → Each (Kept d k) (alike n 2 fs)
unfolding alike
alike-kept d k n [] h = tt
alike-kept d k n (f ∷ fs) h =
    let rest = alike-kept d k n fs h.1 in
    split (eqb f.number n)
    (λ e. rw e
    (split (eqb f.wire 2) (λ w. rw w ((eqb-true f.wire 2 w, h.0 (eqb-true f.number n e)), rest)) (λ w. rw w rest)))
    (λ e. rw e rest)

-- the last of texts is one
abbrev Texted : Content → Type 0
Texted f = IsText f.bytes

last-text : (v : Option (List ℕ)) (fs : List Content) → IfAny IsText v → Each Texted fs → IfAny IsText (last_one as_bytes v fs)
unfolding last_one
last-text v [] x h = x
last-text v (f ∷ fs) x h = last-text (Some f.bytes) fs h.0 h.1

-- what is told of a field with the wire type of bytes, by what it holds
wired : (f : Content) (x : Bool) → f.wire ≡ 2 → pick (eqb f.wire 2) x true ≡ true → x ≡ true
wired f x w h = rw (eq-eqb f.wire 2 w) at h

-- a message that can be read: its fields can, with a level less
abbrev less : ℕ → ℕ
less zero = zero
less (suc d) = d

held-by-table : (d : ℕ) (U : Table) (bs : List ℕ) → readable_to d U bs ≡ true → Each (ByTable (less d) U) (contents bs)
unfolding readable_to
held-by-table zero U bs h = absurd (true≢false (sym h))
held-by-table (suc d) U bs h = all-by-table d U (contents bs) (both (fields bs).whole _ h).1

merged-by-table : (d : ℕ) (U : Table) (fs : List Content) → Each (Kept d (message U)) fs → Each (ByTable (less d) U) (merged fs)
unfolding merged held_tells
merged-by-table d U [] h = tt
merged-by-table d U (f ∷ fs) h =
    each_append (ByTable (less d) U) (contents f.bytes) (merged fs)
    (held-by-table d U f.bytes (wired f (readable_to d U f.bytes) h.0.0 h.0.1)) (merged-by-table d U fs h.1)

where-any : {A : Type 0} (P : A → Type 0) (read : List Content → A) (fs : List Content) → P (read (merged fs)) → IfAny P (where_any read fs)
unfolding where_any
where-any P read [] h = tt
where-any P read (f ∷ fs) h = h

-- fields whose number is above b
abbrev Beyond : ℕ → ℕ → Table → Content → Type 0
Beyond b d T f = b < f.number → ByTable d T f

any-number : (b d : ℕ) (T : Table) (fs : List Content) → Each (ByTable d T) fs → Each (Beyond b d T) fs
any-number b d T = each-so (ByTable d T) (Beyond b d T) (λ f h l. h)

-- the fields of a row, and those of the rows behind it
this-row : (b d n : ℕ) (k : Kind) (T : Table) (f : Content) → b < n → Beyond b d (row n k T) f → Among d k n f
unfolding field_tells
this-row b d n k T f l h e = rw (eq-eqb f.number n e) at (h (omega arith))

later_rows : (b d n : ℕ) (k : Kind) (T : Table) (f : Content) → b < n → Beyond b d (row n k T) f → Beyond n d T f
unfolding field_tells
later_rows b d n k T f l h g = rw (ne_eqb f.number n (omega arith)) at (h (omega arith))

mutual
  unfolding value_of values_of held_tells

  kind-texts : (k : Kind) (d n : ℕ) (fs : List Content) → OrderedKind k → Each (Among d k n) fs → StringsOf IsText k (value_of k n fs)
  kind-texts uint32 d n fs o h = tt
  kind-texts bool d n fs o h = tt
  kind-texts bytes d n fs o h = tt
  kind-texts string d n fs o h =
      let l = alike n 2 fs in
      last-text None l tt
      (each-so (Kept d string) Texted (λ f x. wired f (is_utf8 f.bytes) x.0 x.1) l (alike-kept d string n fs h))
  kind-texts strings d n fs o h =
      let l = alike n 2 fs in
      each_over IsText as_bytes l
      (each-so (Kept d strings) Texted (λ f x. wired f (is_utf8 f.bytes) x.0 x.1) l (alike-kept d strings n fs h))
  kind-texts (message U) d n fs o h =
      let l = alike n 2 fs in
      where-any (Texts U) (λ (m : List Content). values_of U m) l
      (table-texts U (less d) 0 (merged l) o (any-number 0 (less d) U (merged l) (merged-by-table d U l (alike-kept d (message U) n fs h))))
  kind-texts (messages U) d n fs o h =
      let l = alike n 2 fs in
      each_over (Texts U) (λ (f : Content). values_of U (contents f.bytes)) l
      (each-so (Kept d (messages U)) (λ (f : Content). Texts U (values_of U (contents f.bytes)))
      (λ f x. let e = held-by-table d U f.bytes (wired f (readable_to d U f.bytes) x.0 x.1) in
      table-texts U (less d) 0 (contents f.bytes) o (any-number 0 (less d) U (contents f.bytes) e))
      l (alike-kept d (messages U) n fs h))

  table-texts : (T : Table) (d b : ℕ) (fs : List Content) → Ordered b T → Each (Beyond b d T) fs → Texts T (values_of T fs)
  table-texts end d b fs o h = tt
  table-texts (row n k T) d b fs o h = (
    kind-texts k d n fs o.2 (each-so (Beyond b d (row n k T)) (Among d k n) (λ f. this-row b d n k T f o.0) fs h),
    table-texts T d n fs o.3 (each-so (Beyond b d (row n k T)) (Beyond n d T) (λ f. later_rows b d n k T f o.0) fs h),
  )

pub texts-read : TextsRead
unfolding readable read_by
texts-read T s f h = table-texts T 3 0 (contents s) f.ordered (any-number 0 3 T (contents s) (held-by-table 4 T s h))
