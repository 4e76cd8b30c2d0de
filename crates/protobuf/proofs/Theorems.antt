-- What `specs/Before.antt` states: what is told of a field is as before, but for `padded`.
use Rattle.std.specs.Prelude.{None, Option, Some}
use Prim.Native.Nat.{ℕ, ◌/◌, ◌%◌, ◌^◌}
use mathlib.Core.Path.{◌≡◌, refl, ap, ◌∙◌}
use mathlib.Core.List.{List}
use mathlib.Core.Bool.{Bool, true, false}
use lib.Dec.{eqb, ltb, leb}
use lib.ListN.{length}
use Rattle.buffer.specs.Pick.{pick}
use Rattle.buffer.specs.Stretch.{stretch}
use Rattle.varint.specs.Before.{number_in, delimited_in}
use Rattle.varint.specs.Varint.{varint_at, delimited_at}
use Rattle.varint.proofs.Theorems.{numbers-stand}
use Rattle.protobuf.specs.Before.{Told, numbered_before, spanned_before, held_before, content_before, tag_before, field_before, field_in, FieldsStand}
use Rattle.protobuf.specs.Field.{numbered, held, spanned, content_at, of_tag, field_at}
use Rattle.protobuf.specs.declared.Field.{Field}
use Rattle.varint.specs.declared.Delimited.{Delimited}
use Rattle.varint.specs.declared.Varint.{Varint}

-- the same choice of both
same-pick : (t : Bool) (a b : Option Field) (x y : Option Told) → field_in a ≡ x → field_in b ≡ y → field_in (pick t a b) ≡ pick t x y
same-pick true a b x y e f = e
same-pick false a b x y e f = f

spanned-stands : (n w : ℕ) (p : Bool) (start : ℕ) (t : Option ℕ) → field_in (spanned n w p start t) ≡ spanned_before n w start t
unfolding spanned spanned_before
spanned-stands n w p start (Some end) = refl
spanned-stands n w p start None = refl

numbered-stands : (n : ℕ) (p : Bool) (v : Option Varint) → field_in (numbered n p v) ≡ numbered_before n (number_in v)
unfolding numbered numbered_before
numbered-stands n p (Some x) = refl
numbered-stands n p None = refl

held-stands : (n : ℕ) (p : Bool) (d : Option Delimited) → field_in (held n p d) ≡ held_before n (delimited_in d)
unfolding held held_before
held-stands n p (Some x) = refl
held-stands n p None = refl

content-stands : (s : List ℕ) (n w : ℕ) (p : Bool) (at : ℕ) → field_in (content_at s n w p at) ≡ content_before s n w at
unfolding content_at content_before
content-stands s n w p at =
    same-pick (eqb w 0) _ _ _ _ (numbered-stands n p (varint_at s at) ∙ ap (numbered_before n) (numbers-stand.numbers s at))
    (same-pick (eqb w 1) _ _ _ _ (spanned-stands n w p at (stretch (length s) at 8))
    (same-pick (eqb w 2) _ _ _ _ (held-stands n p (delimited_at s at) ∙ ap (held_before n) (numbers-stand.lengths s at))
    (same-pick (eqb w 5) _ None _ None (spanned-stands n w p at (stretch (length s) at 4)) refl)))

tag-stands : (s : List ℕ) (v : Option Varint) → field_in (of_tag s v) ≡ tag_before s (number_in v)
unfolding of_tag tag_before
tag-stands s (Some x) =
    same-pick (leb (2 ^ 32) x.value) None _ None _ refl (same-pick (ltb x.value 8) None _ None _ refl (content-stands s (x.value / 8) (x.value % 8) x.padded x.next))
tag-stands s None = refl

pub fields-stand : FieldsStand
unfolding field_at field_before
fields-stand s at = tag-stands s (varint_at s at) ∙ ap (tag_before s) (numbers-stand.numbers s at)
