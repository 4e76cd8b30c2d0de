-- Laws of fields: what a field holds, what its tag is followed by, where it lies, and the walk over the fields.
use Rattle.std.specs.Prelude.{None, Option, Some}
use Prim.Native.Nat.{ℕ, ◌/◌, ◌%◌, ◌^◌, ◌≤◌, ◌<◌}
use mathlib.Core.Path.{◌≡◌, refl, ap, subst}
use mathlib.Core.List.{List}
use mathlib.Core.Bool.{Bool, true, false}
use native.Mathlib.Omega.{arith}
use borrow.Author.Tests.{eq-eqb, ne_eqb, lt-ltb, le-ltb, le-leb, lt-leb}
use lib.Dec.{eqb, ltb, leb}
use lib.ListN.{length}
use Rattle.buffer.specs.Stretch.{stretch}
use Rattle.buffer.specs.Walk.{item, ended, joined}
use Rattle.buffer.proofs.Stretches.{stretch-inside}
use Rattle.buffer.proofs.Walks.{Advances, walk_end, walk_more, walk-unreadable}
use Rattle.varint.specs.Varint.{varint_at, delimited_at, stands}
use Rattle.varint.proofs.Stretched.{delimited-inside}
use Rattle.varint.proofs.Theorems.{inside}
use Rattle.protobuf.specs.Field.{numbered, held, spanned, content_at, of_tag, field_at, stepped, field_step, fields_from}
use Rattle.protobuf.specs.Each.{Each}
use Rattle.protobuf.specs.declared.Field.{Field}
use Rattle.protobuf.proofs.EachLaws.{either, each-walked}
use Rattle.varint.specs.declared.Delimited.{Delimited}
use Rattle.varint.specs.declared.Varint.{Varint}

-- what a field holds, by its wire type
module _ (s : List ℕ) (n w : ℕ) (p : Bool) (at : ℕ) {r : Option Field} where
  pub content-number : w ≡ 0 → r ≡ numbered n p (varint_at s at) → r ≡ content_at s n w p at
  unfolding content_at
  content-number h e = rw (eq-eqb w 0 h) e

  pub content-eight : (w ≡ 0 → ⊥) → w ≡ 1 → r ≡ spanned n w p at (stretch (length s) at 8) → r ≡ content_at s n w p at
  unfolding content_at
  content-eight a h e = rw (ne_eqb w 0 a, eq-eqb w 1 h) e

  pub content-bytes : (w ≡ 0 → ⊥) → (w ≡ 1 → ⊥) → w ≡ 2 → r ≡ held n p (delimited_at s at) → r ≡ content_at s n w p at
  unfolding content_at
  content-bytes a b h e = rw (ne_eqb w 0 a, ne_eqb w 1 b, eq-eqb w 2 h) e

  pub content-four : (w ≡ 0 → ⊥) → (w ≡ 1 → ⊥) → (w ≡ 2 → ⊥) → w ≡ 5 → r ≡ spanned n w p at (stretch (length s) at 4) → r ≡ content_at s n w p at
  unfolding content_at
  content-four a b d h e = rw (ne_eqb w 0 a, ne_eqb w 1 b, ne_eqb w 2 d, eq-eqb w 5 h) e

  pub content-none : (w ≡ 0 → ⊥) → (w ≡ 1 → ⊥) → (w ≡ 2 → ⊥) → (w ≡ 5 → ⊥) → r ≡ None → r ≡ content_at s n w p at
  unfolding content_at
  content-none a b d h e = rw (ne_eqb w 0 a, ne_eqb w 1 b, ne_eqb w 2 d, ne_eqb w 5 h) e

-- what a tag is followed by
module _ (s : List ℕ) (at : ℕ) where
  pub field-untagged : varint_at s at ≡ None → field_at s at ≡ None
  unfolding field_at of_tag
  field-untagged e = rw e

  module _ (tag mid : ℕ) (p : Bool) (e : varint_at s at ≡ stands tag mid p) where
    pub field-large : 2 ^ 32 ≤ tag → field_at s at ≡ None
    unfolding field_at of_tag
    field-large h = rw (e, le-leb (2 ^ 32) tag h)

    pub field-zero : tag < 2 ^ 32 → tag < 8 → field_at s at ≡ None
    unfolding field_at of_tag
    field-zero h k = rw (e, lt-leb (2 ^ 32) tag h, lt-ltb tag 8 k)

    pub field-tagged : tag < 2 ^ 32 → 8 ≤ tag → field_at s at ≡ content_at s (tag / 8) (tag % 8) p mid
    unfolding field_at of_tag
    field-tagged h k = rw (e, lt-leb (2 ^ 32) tag h, le-ltb tag 8 k)

-- a field's bytes lie in the message, and it ends after a position
abbrev pub Follows : List ℕ → ℕ → Field → Type 0
Follows s from f = (from < f.end) × (f.start ≤ f.end) × (f.end ≤ length s)

-- so it is with one that was read there
module _ (s : List ℕ) (at : ℕ) where
  abbrev Within : Option Field → Type 0
  Within (Some f) = Follows s at f
  Within None = Unit {0}

  module _ (mid : ℕ) (h : at < mid) (p : Bool) where
    numbered_within : (n : ℕ) (r : Option Varint) → varint_at s mid ≡ r → Within (numbered n p r)
    unfolding numbered
    numbered_within n (Some x) e = let i = inside s mid x.value x.next x.padded e in omega arith
    numbered_within n None e = tt

    spanned-within : (n w k : ℕ) (r : Option ℕ) → stretch (length s) mid k ≡ r → Within (spanned n w p mid r)
    unfolding spanned
    spanned-within n w k (Some end) e = let b = stretch-inside (length s) mid k end e in omega arith
    spanned-within n w k None e = tt

    held-within : (n : ℕ) (r : Option Delimited) → delimited_at s mid ≡ r → Within (held n p r)
    unfolding held
    held-within n (Some x) e = let b = delimited-inside s mid x.start x.end x.padded e in omega arith
    held-within n None e = tt

    content-within : (n w : ℕ) → Within (content_at s n w p mid)
    unfolding content_at
    content-within n w =
        either Within (eqb w 0) _ _ (numbered_within n (varint_at s mid) refl)
        (either Within (eqb w 1) _ _ (spanned-within n w 8 (stretch (length s) mid 8) refl)
        (either Within (eqb w 2) _ _ (held-within n (delimited_at s mid) refl)
        (either Within (eqb w 5) _ _ (spanned-within n w 4 (stretch (length s) mid 4) refl) tt)))

  tagged-within : (r : Option Varint) → varint_at s at ≡ r → Within (of_tag s r)
  unfolding of_tag
  tagged-within (Some x) e =
      either Within (leb (2 ^ 32) x.value) _ _ tt
      (either Within (ltb x.value 8) _ _ tt (content-within x.next (inside s at x.value x.next x.padded e).starts x.padded (x.value / 8) (x.value % 8)))
  tagged-within None e = tt

  pub field-within : (f : Field) → field_at s at ≡ Some f → Follows s at f
  unfolding field_at
  field-within f e = subst Within e (tagged-within (varint_at s at) refl)

  -- a step of the walk is a field, and the next one begins where it ends
  step_field : (f : Field) (next : ℕ) → field_step s at ≡ item f next → (field_at s at ≡ Some f) × (f.end ≡ next)
  unfolding field_step
  step_field f next = go (field_at s at)
    where
      go : (r : Option Field) → stepped r ≡ item f next → (r ≡ Some f) × (f.end ≡ next)
      go (Some g) e = (cc, cc)
      go None e = let z : ◌≡◌ {A = ℕ} 0 1 = cc in absurd (omega arith)

-- so the walk over the fields goes on
pub field-advances : Advances field_step
field-advances s at f next e =
    let p = step_field s at f next e in
    let b = field-within s at f p.0 in
    omega arith

-- the fields from a position on, one at a time
module _ (s : List ℕ) (at : ℕ) where
  pub fields-end : length s ≤ at → fields_from s at ≡ ended true
  unfolding fields_from
  fields-end h = walk_end field_step s at h

  pub fields-more : (f : Field) → at < length s → field_at s at ≡ Some f → fields_from s at ≡ joined f (fields_from s f.end)
  unfolding fields_from field_step
  fields-more f h e = walk_more field_step field-advances s at f.end f h (ap stepped e)

  pub fields-unreadable : at < length s → field_at s at ≡ None → fields_from s at ≡ ended false
  unfolding fields_from field_step
  fields-unreadable h e = walk-unreadable field_step s at h (ap stepped e)

  -- and where each of them lies
  pub fields-follow : Each (Follows s at) (fields_from s at).items
  unfolding fields_from
  fields-follow =
      each-walked field_step field-advances (Follows s at) s at
      (λ here f next h e. let b = field-within s here f (step_field s here f next e).0 in omega arith)
