-- Bytes in the written form come out unchanged: their fields are written as they stand, and reading by the table and writing gives the same fields.
use Rattle.std.specs.Prelude.{None, Some}
use Prim.Native.Nat.{ℕ, zero, suc, ◌-◌, ◌<◌}
use mathlib.Core.Path.{◌≡◌, refl, sym, ap, ap₂, ◌∙◌, subst}
use mathlib.Core.List.{List, [], ◌∷◌, ◌++◌, map, append-nil, append_assoc}
use mathlib.Core.Bool.{Bool, true, false, not, true≢false}
use native.Mathlib.Omega.{arith}
use borrow.Author.Tests.{not-true, eq-eqb, ne_eqb, eqb-true, eqb-false, ltb-true}
use lib.Dec.{eqb}
use lib.ListN.{drop, drop_of_length-le}
use Rattle.buffer.specs.Pick.{pick}
use Rattle.buffer.specs.Walk.{Walked}
use Rattle.buffer.proofs.Tests.{split, both}
use Rattle.form.proofs.Walks.{walk-holds}
use Rattle.form.specs.Bytes.{AreBytes}
use Rattle.form.proofs.Numbers.{bytes_take, bytes_drop}
use Rattle.protobuf.specs.Each.{Each}
use Rattle.protobuf.specs.Field.{fields, field_at, field_step, fields_from}
use Rattle.protobuf.specs.Write.{number_field, bytes_field, if_any, each}
use Rattle.protobuf.specs.declared.Field.{Field}
use Rattle.protobuf.proofs.EachLaws.{each-so, each_both, each_append, each_map}
use Rattle.form.proofs.Fields.{each-parts, step_field, field-same}
use Rattle.form.specs.Form.{is_list, ascending, is_shortest, form_by, fits_kind, is_known, in_form}
use Rattle.tables.specs.Statements.{OrderedKind, Ordered}
use Rattle.tables.specs.Table.{Kind, uint32, bool, bytes, string, strings, message, messages, Table, end, row, Values, Content, content_of, contents, alike, last_one, as_number, as_flag, as_bytes, merged, where_any, value_of, values_of, read_by, flag_number, written, write_by}
use Rattle.form.proofs.TableForm.{Passes, form-tests, known-wire, Agrees, agrees-row, agrees-later, Single, Mine, Later, parted}
use Rattle.form.proofs.Values.{UpTo, Other, alike-amid, value-alike}

-- a field as it is written, by its wire type
unfoldable field_bytes : Content → List ℕ
field_bytes f = pick (eqb f.wire 0) (number_field f.number f.value) (bytes_field f.number f.bytes)

number-bytes : (f : Content) → f.wire ≡ 0 → field_bytes f ≡ number_field f.number f.value
unfolding field_bytes
number-bytes f h = rw (eq-eqb f.wire 0 h)

held_bytes : (f : Content) → f.wire ≡ 2 → field_bytes f ≡ bytes_field f.number f.bytes
unfolding field_bytes
held_bytes f h = rw (ne_eqb f.wire 0 (omega arith))

each-joined : (a b : List Content) → each field_bytes (a ++ b) ≡ each field_bytes a ++ each field_bytes b
unfolding each
each-joined [] b = refl
each-joined (f ∷ a) b = ap (◌++◌ (field_bytes f)) (each-joined a b) ∙ sym (append_assoc (field_bytes f) (each field_bytes a) (each field_bytes b))

-- the walk over fields that are not padded, each a number or bytes: they are written as they stand
abbrev Plain : Content → Type 0
Plain f = (f.padded ≡ false) × ((f.wire ≡ 0 → ⊥) → f.wire ≡ 2)

module _ (s : List ℕ) (a : AreBytes s) where
  field-again : (at : ℕ) (f : Field) → field_at s at ≡ Some f → Plain (content_of s f) → field_bytes (content_of s f) ++ drop f.end s ≡ drop at s
  field-again at f e p =
      let w = field-same s a at f e p.0 in
      split (eqb f.wire 0)
      (λ t. let z = eqb-true f.wire 0 t in ap (λ (x : List ℕ). x ++ drop f.end s) (number-bytes (content_of s f) z) ∙ w.number z)
      (λ t. let z = p.1 (eqb-false f.wire 0 t) in ap (λ (x : List ℕ). x ++ drop f.end s) (held_bytes (content_of s f) z) ∙ w.bytes z)

  abbrev Again : ℕ → Walked Field → Type 0
  Again at w = w.whole ≡ true → Each Plain (map (content_of s) w.items) → each field_bytes (map (content_of s) w.items) ≡ drop at s

  fields-again : (at : ℕ) → Again at (fields_from s at)
  unfolding fields_from each
  fields-again =
      walk-holds field_step s Again (λ at h w p. sym (drop_of_length-le s h)) (λ at w p. absurd (true≢false (sym w)))
      (λ at f next w e rest h p.
      let t = step_field s at f next e in
      ap (◌++◌ (field_bytes (content_of s f))) (rest h p.1 ∙ ap (λ (x : ℕ). drop x s) (sym t.1)) ∙ field-again at f t.0 p.0)

  contents-again : (fields s).whole ≡ true → Each Plain (contents s) → each field_bytes (contents s) ≡ s
  unfolding contents
  contents-again = fields-again 0

  -- what they hold are bytes
  contents-bytes : Each (λ (f : Content). AreBytes f.bytes) (contents s)
  unfolding contents
  contents-bytes =
      each_map (λ (f : Content). AreBytes f.bytes) (content_of s) (λ f. bytes_take (f.end - f.start) (drop f.start s) (bytes_drop f.start s a)) (fields s).items

-- a row's number or bytes are written as the field that has them
number-again : (n : ℕ) (f : Content) (x : ℕ) → f.number ≡ n → f.wire ≡ 0 → x ≡ f.value → number_field n x ≡ field_bytes f
number-again n f x e w h = ap₂ number_field (sym e) h ∙ sym (number-bytes f w)

bytes-again : (n : ℕ) (f : Content) (x : List ℕ) → f.number ≡ n → f.wire ≡ 2 → x ≡ f.bytes → bytes_field n x ≡ field_bytes f
bytes-again n f x e w h = ap₂ bytes_field (sym e) h ∙ sym (held_bytes f w)

flag-again : (v : ℕ) → v < 2 → flag_number (not (eqb v 0)) ≡ v
flag-again zero h = refl
flag-again (suc zero) h = refl
flag-again (suc (suc v)) h = absurd (omega arith)

-- a row's fields, if each is written as what is read of it: one at most, or a list
module _ (n w : ℕ) where
  abbrev Alike : Content → Type 0
  Alike f = (f.number ≡ n) × (f.wire ≡ w)

  alike_all : (l : List Content) → Each Alike l → alike n w l ≡ l
  unfolding alike
  alike_all [] h = refl
  alike_all (f ∷ l) h = rw (eq-eqb f.number n h.0.0, eq-eqb f.wire w h.0.1) (ap (◌∷◌ f) (alike_all l h.1))

  module _ {A : Type 0} (write : A → List ℕ) where
    abbrev Wrote : (Content → A) → Content → Type 0
    Wrote g f = write (g f) ≡ field_bytes f

    last-again : (g : Content → A) (l : List Content) → Single l → Each Alike l → Each (Wrote g) l → if_any write (last_one g None (alike n w l)) ≡ each field_bytes l
    unfolding if_any last_one each
    last-again g [] s h k = rw (alike_all [] tt)
    last-again g (f ∷ []) s h k = rw (alike_all (f ∷ []) h, append-nil (field_bytes f)) k.0
    last-again g (f ∷ x ∷ l) s h k = absurd s

    any-again : (read : List Content → A) (l : List Content) → Single l → Each Alike l → Each (Wrote (λ (f : Content). read (contents f.bytes))) l
        → if_any write (where_any read (alike n w l)) ≡ each field_bytes l
    unfolding if_any where_any merged each
    any-again read [] s h k = rw (alike_all [] tt)
    any-again read (f ∷ []) s h k = rw (alike_all (f ∷ []) h, append-nil (contents f.bytes), append-nil (field_bytes f)) k.0
    any-again read (f ∷ x ∷ l) s h k = absurd s

    list-again : (g : Content → A) (l : List Content) → Each (Wrote g) l → each write (map g l) ≡ each field_bytes l
    unfolding each
    list-again g [] k = refl
    list-again g (f ∷ l) k = ap₂ ◌++◌ k.0 (list-again g l k.1)

    each_again : (g : Content → A) (l : List Content) → Each Alike l → Each (Wrote g) l → each write (map g (alike n w l)) ≡ each field_bytes l
    each_again g l h k = ap (λ (x : List Content). each write (map g x)) (alike_all l h) ∙ list-again g l k

-- the wire type of a row's fields
abbrev wired : Kind → ℕ
wired uint32 = 0
wired bool = 0
wired bytes = 2
wired string = 2
wired strings = 2
wired (message T) = 2
wired (messages T) = 2

mine-alike : (k : Kind) (n : ℕ) (f : Content) → Mine k n f → Alike n (wired k) f
unfolding fits_kind
mine-alike uint32 n f h = (h.0, eqb-true f.wire 0 (both _ _ h.1).0)
mine-alike bool n f h = (h.0, eqb-true f.wire 0 (both _ _ h.1).0)
mine-alike bytes n f h = (h.0, eqb-true f.wire 2 h.1)
mine-alike string n f h = (h.0, eqb-true f.wire 2 h.1)
mine-alike strings n f h = (h.0, eqb-true f.wire 2 h.1)
mine-alike (message T) n f h = (h.0, eqb-true f.wire 2 (both _ _ h.1).0)
mine-alike (messages T) n f h = (h.0, eqb-true f.wire 2 (both _ _ h.1).0)

all_alike : (k : Kind) (n : ℕ) (l : List Content) → Each (Mine k n) l → Each (Alike n (wired k)) l
all_alike k n l m = each-so (Mine k n) (Alike n (wired k)) (mine-alike k n) l m

abbrev HoldsBytes : Content → Type 0
HoldsBytes f = AreBytes f.bytes

-- fields in the form by the rows that are left of a table, behind those of the rows before
record Left (T : Table) (front fs : List Content) : Type 0 where
  whole : Table
  below : ℕ
  from : ℕ
  ordered : Ordered below T
  agrees : Agrees below whole T
  before : Each (UpTo below) front
  ascends : ascending whole from fs ≡ true
  knows : Each (Passes (is_known T)) fs
  holds : Each HoldsBytes fs

-- their values are written as the fields
abbrev Goes : Table → Type 0
Goes T = (front fs : List Content) → Left T front fs → write_by T (values_of T (front ++ fs)) ≡ each field_bytes fs

-- and so a message is as it stands
message-again : (T : Table) → Goes T → (s : List ℕ) → AreBytes s → Ordered 0 T → form_by T (is_known T) s ≡ true → write_by T (values_of T (contents s)) ≡ s
message-again T goes s a o h =
    let w = form-tests T (is_known T) s h in
    goes [] (contents s)
    (record { whole = T; below = 0; from = 0; ordered = o; agrees = λ m l. refl; before = tt; ascends = w.ascends; knows = w.knows; holds = contents-bytes s a })
    ∙ contents-again s a w.whole
    (each_both (Passes is_shortest) (Passes (is_known T)) Plain (λ f x y. (not-true f.padded x, known-wire T f y)) (contents s) w.short w.knows)

nothing_known : (fs : List Content) → Each (Passes (is_known end)) fs → [] ≡ each field_bytes fs
unfolding is_known each
nothing_known [] p = refl
nothing_known (f ∷ fs) p = absurd (true≢false (sym p.0))

mutual
  unfolding written value_of values_of write_by fits_kind each

  kind-again : (k : Kind) (n : ℕ) (l : List Content) → OrderedKind k → Each (Mine k n) l → Each HoldsBytes l → (is_list k ≡ false → Single l)
      → written k n (value_of k n l) ≡ each field_bytes l
  kind-again uint32 n l o m a s =
      last-again n 0 (number_field n) as_number l (s refl) (all_alike uint32 n l m)
      (each-so (Mine uint32 n) (Wrote n 0 (number_field n) as_number)
      (λ f h. number-again n f (as_number f) h.0 (mine-alike uint32 n f h).1 (let z = ltb-true f.value _ (both (eqb f.wire 0) _ h.1).1 in omega arith)) l m)
  kind-again bool n l o m a s =
      last-again n 0 (λ (b : Bool). number_field n (flag_number b)) as_flag l (s refl) (all_alike bool n l m)
      (each-so (Mine bool n) (Wrote n 0 (λ (b : Bool). number_field n (flag_number b)) as_flag)
      (λ f h. number-again n f (flag_number (as_flag f)) h.0 (mine-alike bool n f h).1 (flag-again f.value (ltb-true f.value 2 (both (eqb f.wire 0) _ h.1).1))) l m)
  kind-again bytes n l o m a s =
      last-again n 2 (bytes_field n) as_bytes l (s refl) (all_alike bytes n l m)
      (each-so (Mine bytes n) (Wrote n 2 (bytes_field n) as_bytes) (λ f h. bytes-again n f f.bytes h.0 (mine-alike bytes n f h).1 refl) l m)
  kind-again string n l o m a s =
      last-again n 2 (bytes_field n) as_bytes l (s refl) (all_alike string n l m)
      (each-so (Mine string n) (Wrote n 2 (bytes_field n) as_bytes) (λ f h. bytes-again n f f.bytes h.0 (mine-alike string n f h).1 refl) l m)
  kind-again strings n l o m a s =
      each_again n 2 (bytes_field n) as_bytes l (all_alike strings n l m)
      (each-so (Mine strings n) (Wrote n 2 (bytes_field n) as_bytes) (λ f h. bytes-again n f f.bytes h.0 (mine-alike strings n f h).1 refl) l m)
  kind-again (message T) n l o m a s =
      any-again n 2 (λ (v : Values T). bytes_field n (write_by T v)) (values_of T) l (s refl) (all_alike (message T) n l m)
      (each_both (Mine (message T) n) HoldsBytes _
      (λ f h x. bytes-again n f (write_by T (values_of T (contents f.bytes))) h.0 (mine-alike (message T) n f h).1
      (message-again T (λ b r v. table-again T b r v) f.bytes x o (both (eqb f.wire 2) _ h.1).1)) l m a)
  kind-again (messages T) n l o m a s =
      each_again n 2 (λ (v : Values T). bytes_field n (write_by T v)) (λ (f : Content). values_of T (contents f.bytes)) l (all_alike (messages T) n l m)
      (each_both (Mine (messages T) n) HoldsBytes _
      (λ f h x. bytes-again n f (write_by T (values_of T (contents f.bytes))) h.0 (mine-alike (messages T) n f h).1
      (message-again T (λ b r v. table-again T b r v) f.bytes x o (both (eqb f.wire 2) _ h.1).1)) l m a)

  table-again : (T : Table) → Goes T
  table-again end front fs v = nothing_known fs v.knows
  table-again (row n k T) front fs v =
      let o = v.ordered in
      let w = parted v.whole k n T (agrees-row k v.whole T o.0 v.agrees) o.3 v.from fs v.ascends v.knows in
      let here = w.here in
      let rest = w.rest in
      let q = each-parts HoldsBytes here rest (subst (Each HoldsBytes) w.joins v.holds) in
      let e : front ++ fs ≡ front ++ (here ++ rest) = ap (◌++◌ front) w.joins in
      ap₂ ◌++◌
      (ap (written k n) (ap (value_of k n) e
      ∙ value-alike k n (front ++ (here ++ rest)) here
      (λ u. alike-amid n u front here rest (each-so (UpTo v.below) (Other n) (λ f x. omega arith) front v.before)
      (each-so (Later T n) (Other n) (λ f x. omega arith) rest w.later)))
      ∙ kind-again k n here o.2 w.mine q.0 w.once)
      (ap (λ (x : List Content). write_by T (values_of T x)) (e ∙ sym (append_assoc front here rest))
      ∙ table-again T (front ++ here) rest
      (record {
        whole = v.whole;
        below = n;
        from = w.from;
        ordered = o.3;
        agrees = agrees-later k v.whole T o.0 v.agrees;
        before = each_append (UpTo n) front here (each-so (UpTo v.below) (UpTo n) (λ f x. omega arith) front v.before)
            (each-so (Mine k n) (UpTo n) (λ f x. omega arith) here w.mine);
        ascends = w.ascends;
        knows = each-so (Later T n) (Passes (is_known T)) (λ f x. x.1) rest w.later;
        holds = q.1;
      }))
      ∙ sym (each-joined here rest) ∙ ap (each field_bytes) (sym w.joins)

pub unchanged : (T : Table) → Ordered 0 T → (s : List ℕ) → AreBytes s → in_form T s ≡ true → write_by T (read_by T s) ≡ s
unfolding in_form read_by
unchanged T o s a h = message-again T (table-again T) s a o h
