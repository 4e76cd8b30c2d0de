-- What the tests of the written form say, field by field.
use Prim.Native.Nat.{ℕ, ◌≤◌, ◌<◌}
use mathlib.Core.Path.{◌≡◌, refl, sym, ap, ◌∙◌}
use mathlib.Core.List.{List, [], ◌∷◌, ◌++◌}
use mathlib.Core.Bool.{Bool, true, false, true≢false}
use native.Mathlib.Omega.{arith}
use borrow.Author.Tests.{eq-eqb, ne_eqb, eqb-true, eqb-false}
use lib.Dec.{eqb}
use Rattle.buffer.proofs.Tests.{split, both}
use Rattle.protobuf.specs.Each.{Each}
use Rattle.protobuf.specs.Field.{fields}
use Rattle.protobuf.proofs.EachLaws.{each-so, each_both}
use Rattle.form.proofs.Rises.{rises}
use Rattle.form.specs.Form.{is_list, repeats, ascending, every, is_shortest, form_by, fits_kind, is_known}
use Rattle.tables.specs.Statements.{Ordered}
use Rattle.tables.specs.Table.{Kind, uint32, bool, bytes, string, strings, message, messages, Table, end, row, Content, contents}

-- a test of every field
abbrev pub Passes : (Content → Bool) → Content → Type 0
Passes test f = test f ≡ true

pub every-each : (test : Content → Bool) (fs : List Content) → every test fs ≡ true → Each (Passes test) fs
unfolding every
every-each test [] h = tt
every-each test (f ∷ fs) h = let t = both (test f) _ h in (t.0, every-each test fs t.1)

pub each-every : (test : Content → Bool) (fs : List Content) → Each (Passes test) fs → every test fs ≡ true
unfolding every
each-every test [] h = refl
each-every test (f ∷ fs) h = rw h.0 (each-every test fs h.1)

-- a message in the form, test by test
pub record InForm (T : Table) (known : Content → Bool) (s : List ℕ) : Type 0 where
  pub whole : (fields s).whole ≡ true
  pub ascends : ascending T 0 (contents s) ≡ true
  pub short : Each (Passes is_shortest) (contents s)
  pub knows : Each (Passes known) (contents s)

pub form-tests : (T : Table) (known : Content → Bool) (s : List ℕ) → form_by T known s ≡ true → InForm T known s
unfolding form_by
form-tests T known s h =
    let t = both (fields s).whole _ h in
    let u = both (ascending T 0 (contents s)) _ t.1 in
    let v = both (every is_shortest (contents s)) _ u.1 in
    record { whole = t.0; ascends = u.0; short = every-each is_shortest (contents s) v.0; knows = every-each known (contents s) v.1 }

pub tests-form : (T : Table) (known : Content → Bool) (s : List ℕ) → InForm T known s → form_by T known s ≡ true
unfolding form_by
tests-form T known s w = rw (w.whole, w.ascends, each-every is_shortest (contents s) w.short) (each-every known (contents s) w.knows)

-- the field of a row, and of a later one
module _ (n : ℕ) (k : Kind) (T : Table) (f : Content) where
  pub known-row : f.number ≡ n → is_known (row n k T) f ≡ fits_kind k f
  unfolding is_known
  known-row e = rw (eq-eqb f.number n e)

  pub known-later : (f.number ≡ n → ⊥) → is_known (row n k T) f ≡ is_known T f
  unfolding is_known
  known-later e = rw (ne_eqb f.number n e)

-- a known field holds a number or bytes
abbrev Held : Content → Type 0
Held f = (f.wire ≡ 0 → ⊥) → f.wire ≡ 2

kind-wire : (k : Kind) (f : Content) → fits_kind k f ≡ true → Held f
unfolding fits_kind
kind-wire uint32 f h z = absurd (z (eqb-true f.wire 0 (both _ _ h).0))
kind-wire bool f h z = absurd (z (eqb-true f.wire 0 (both _ _ h).0))
kind-wire bytes f h z = eqb-true f.wire 2 h
kind-wire string f h z = eqb-true f.wire 2 h
kind-wire strings f h z = eqb-true f.wire 2 h
kind-wire (message T) f h z = eqb-true f.wire 2 (both _ _ h).0
kind-wire (messages T) f h z = eqb-true f.wire 2 (both _ _ h).0

pub known-wire : (T : Table) (f : Content) → is_known T f ≡ true → Held f
unfolding is_known
known-wire end f h = absurd (true≢false (sym h))
known-wire (row n k T) f h =
    split (eqb f.number n) (λ e. kind-wire k f (sym (known-row n k T f (eqb-true f.number n e)) ∙ h))
    (λ e. known-wire T f (sym (known-later n k T f (eqb-false f.number n e)) ∙ h))

-- the numbers of a table's rows are above those before it
pub known-above : (T : Table) (b : ℕ) (f : Content) → Ordered b T → is_known T f ≡ true → b < f.number
unfolding is_known
known-above end b f o h = absurd (true≢false (sym h))
known-above (row n k T) b f o h =
    split (eqb f.number n) (λ e. let q = eqb-true f.number n e in omega arith)
    (λ e. let z = known-above T n f o.3 (sym (known-later n k T f (eqb-false f.number n e)) ∙ h) in omega arith)

never-below : (T : Table) (b : ℕ) (fs : List Content) → ascending T b fs ≡ true → Each (λ (f : Content). b ≤ f.number) fs
never-below T b [] h = tt
never-below T b (f ∷ fs) h =
    let r = rises T b f fs h in
    let u = r.up in
    (u, each-so (λ (g : Content). f.number ≤ g.number) (λ (g : Content). b ≤ g.number) (λ g x. omega arith) fs (never-below T f.number fs r.further))

-- rows of a table that the whole table has, beyond a number
abbrev pub Agrees : ℕ → Table → Table → Type 0
Agrees b all T = (m : ℕ) → b < m → repeats all m ≡ repeats T m

module _ {b n : ℕ} (k : Kind) (all T : Table) (l : b < n) (g : Agrees b all (row n k T)) where
  pub agrees-row : repeats all n ≡ is_list k
  unfolding repeats
  agrees-row = g n l ∙ rw (eq-eqb n n refl)

  pub agrees-later : Agrees n all T
  unfolding repeats
  agrees-later m h = g m (omega arith) ∙ rw (ne_eqb m n (omega arith))

-- one at most
abbrev pub Single : List Content → Type 0
Single [] = Unit {0}
Single (f ∷ []) = Unit {0}
Single (f ∷ g ∷ fs) = ⊥

-- the fields of a row, and those of the rows behind it
abbrev pub Mine : Kind → ℕ → Content → Type 0
Mine k n f = (f.number ≡ n) × (fits_kind k f ≡ true)

abbrev pub Later : Table → ℕ → Content → Type 0
Later T n f = (n < f.number) × (is_known T f ≡ true)

pub record Parted (all : Table) (k : Kind) (n : ℕ) (T : Table) (b : ℕ) (fs : List Content) : Type 0 where
  pub here : List Content
  pub rest : List Content
  pub joins : fs ≡ here ++ rest
  pub mine : Each (Mine k n) here
  pub later : Each (Later T n) rest
  pub from : ℕ
  pub ascends : ascending all from rest ≡ true
  pub once : is_list k ≡ false → Single here
  pub none : is_list k ≡ false → n ≤ b → here ≡ []

module _ (all : Table) (k : Kind) (n : ℕ) (T : Table) (same : repeats all n ≡ is_list k) (o : Ordered n T) where
  later-each : (b : ℕ) (fs : List Content) → ascending all b fs ≡ true → n < b → Each (Passes (is_known (row n k T))) fs → Each (Later T n) fs
  later-each b fs h l p =
      each_both (λ (f : Content). b ≤ f.number) (Passes (is_known (row n k T))) (Later T n)
      (λ f x y. (omega arith, sym (known-later n k T f (omega arith)) ∙ y)) fs (never-below all b fs h) p

  pub parted : (b : ℕ) (fs : List Content) → ascending all b fs ≡ true → Each (Passes (is_known (row n k T))) fs → Parted all k n T b fs
  unfolding ascending
  parted b [] h p = record { here = []; rest = []; joins = refl; mine = tt; later = tt; from = 0; ascends = refl; once = λ l. tt; none = λ l z. refl }
  parted b (f ∷ fs) h p =
      let r = rises all b f fs h in
      split (eqb f.number n)
      (λ e. let q = eqb-true f.number n e in
      let w = parted f.number fs r.further p.1 in
      record {
        here = f ∷ w.here;
        rest = w.rest;
        joins = ap (◌∷◌ f) w.joins;
        mine = ((q, sym (known-row n k T f q) ∙ p.0), w.mine);
        later = w.later;
        from = w.from;
        ascends = w.ascends;
        once = λ l. rw (w.none l (omega arith)) tt;
        none = λ l z. absurd (let y = r.above (ap (repeats all) q ∙ same ∙ l) in omega arith);
      })
      (λ e. let q = eqb-false f.number n e in
      let y = sym (known-later n k T f q) ∙ p.0 in
      let x = known-above T n f o y in
      record {
        here = [];
        rest = f ∷ fs;
        joins = refl;
        mine = tt;
        later = ((x, y), later-each f.number fs r.further x p.1);
        from = b;
        ascends = h;
        once = λ l. tt;
        none = λ l z. refl;
      })
