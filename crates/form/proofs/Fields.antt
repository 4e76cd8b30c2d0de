-- A field that is not padded stands in its message as it is written, where it holds a number or bytes behind their length.
use Rattle.std.specs.Prelude.{None, Option, Some}
use Prim.Native.Nat.{ℕ, ◌+◌, ◌*◌, ◌-◌, ◌/◌, ◌%◌, ◌^◌}
use mathlib.Core.Path.{◌≡◌, refl, ap, ◌∙◌, subst}
use mathlib.Core.List.{List, [], ◌∷◌, ◌++◌, append_assoc}
use mathlib.Core.Bool.{Bool, false}
use native.Mathlib.Omega.{arith}
use borrow.Author.Tests.{eqb-true}
use lib.Dec.{eqb, ltb, leb}
use lib.ListN.{length, take, drop}
use Rattle.buffer.specs.Stretch.{stretch}
use Rattle.buffer.proofs.Tests.{pick-both, neither}
use Rattle.varint.specs.Varint.{varint_at, varint, two, delimited_at, encloses, stands}
use Rattle.varint.proofs.Stretched.{delimited-split}
use Rattle.buffer.specs.Walk.{item}
use Rattle.protobuf.specs.Each.{Each}
use Rattle.protobuf.specs.Field.{stepped, field_step, numbered, held, spanned, content_at, of_tag, field_at, bytes_of}
use Rattle.protobuf.specs.Write.{number_field, bytes_field}
use Rattle.protobuf.specs.declared.Field.{Field}
use Rattle.form.specs.Bytes.{AreBytes}
use Rattle.form.proofs.Numbers.{same, delimited-same}
use Rattle.varint.specs.declared.Delimited.{Delimited}
use Rattle.varint.specs.declared.Varint.{Varint}

-- what holds of each of two lists together holds of each of both
module _ {A : Type 0} where
  pub each-parts : (P : A → Type 0) (l m : List A) → Each P (l ++ m) → Each P l × Each P m
  each-parts P [] m p = (tt, p)
  each-parts P (a ∷ l) m p = let q = each-parts P l m p.1 in ((p.0, q.0), q.1)

module _ (s : List ℕ) (a : AreBytes s) (at : ℕ) where
  pub record Same (f : Field) : Type 0 where
    pub number : f.wire ≡ 0 → number_field f.number f.value ++ drop f.end s ≡ drop at s
    pub bytes : f.wire ≡ 2 → bytes_field f.number (bytes_of s f) ++ drop f.end s ≡ drop at s

  abbrev SameStep : Option Field → Type 0
  SameStep (Some f) = f.padded ≡ false → Same f
  SameStep None = Unit {0}

  module _ (tag mid : ℕ) (p : Bool) (e : varint_at s at ≡ stands tag mid p) where
    -- the tag, and what follows it
    tagged : (rest : List ℕ) → p ≡ false → rest ≡ drop mid s → varint tag ++ rest ≡ drop at s
    tagged rest h k = ap (◌++◌ (varint tag)) k ∙ same s at tag mid a (e ∙ ap (stands tag mid) h)

    numbered-same : tag % 8 ≡ 0 → (r : Option Varint) → varint_at s mid ≡ r → SameStep (numbered (tag / 8) p r)
    unfolding numbered number_field two
    numbered-same w (Some x) l = λ h.
        let n = neither p x.padded h in
        let k : tag / 8 * 8 ≡ tag = omega arith in
        record {
          number = λ z. rw (k, append_assoc (varint tag) (varint x.value) (drop x.next s))
              (tagged (varint x.value ++ drop x.next s) n.0 (same s mid x.value x.next a (l ∙ ap (stands x.value x.next) n.1)));
          bytes = λ z. absurd (omega arith);
        }
    numbered-same w None l = tt

    held_same : tag % 8 ≡ 2 → (r : Option Delimited) → delimited_at s mid ≡ r → SameStep (held (tag / 8) p r)
    unfolding held bytes_field
    held_same w (Some x) l = λ h.
        let n = neither p x.padded h in
        let k : tag / 8 * 8 + 2 ≡ tag = omega arith in
        let v = take (x.end - x.start) (drop x.start s) in
        record {
          number = λ z. absurd (omega arith);
          bytes = λ z. rw (k, delimited-split tag v (drop x.end s))
              (tagged (varint (length v) ++ (v ++ drop x.end s)) n.0 (delimited-same s mid x.start x.end a (l ∙ ap (encloses x.start x.end) n.1)));
        }
    held_same w None l = tt

    spanned-same : (w : ℕ) → (w ≡ 0 → ⊥) → (w ≡ 2 → ⊥) → (r : Option ℕ) → SameStep (spanned (tag / 8) w p mid r)
    unfolding spanned
    spanned-same w x y (Some end) = λ h. record { number = λ z. absurd (x z); bytes = λ z. absurd (y z) }
    spanned-same w x y None = tt

    content-same : SameStep (content_at s (tag / 8) (tag % 8) p mid)
    unfolding content_at
    content-same =
        let w = tag % 8 in
        pick-both SameStep (eqb w 0) _ _ (λ t. numbered-same (eqb-true w 0 t) (varint_at s mid) refl)
        (λ _. pick-both SameStep (eqb w 1) _ _ (λ t. let x = eqb-true w 1 t in spanned-same w (omega arith) (omega arith) (stretch (length s) mid 8))
        (λ _. pick-both SameStep (eqb w 2) _ _ (λ t. held_same (eqb-true w 2 t) (delimited_at s mid) refl)
        (λ _. pick-both SameStep (eqb w 5) _ _ (λ t. let x = eqb-true w 5 t in spanned-same w (omega arith) (omega arith) (stretch (length s) mid 4)) (λ _. tt))))

  tag_same : (r : Option Varint) → varint_at s at ≡ r → SameStep (of_tag s r)
  unfolding of_tag
  tag_same (Some x) e =
      pick-both SameStep (leb (2 ^ 32) x.value) _ _ (λ _. tt) (λ _. pick-both SameStep (ltb x.value 8) _ _ (λ _. tt) (λ _. content-same x.value x.next x.padded e))
  tag_same None e = tt

  pub field-same : (f : Field) → field_at s at ≡ Some f → f.padded ≡ false → Same f
  unfolding field_at
  field-same f e = subst SameStep e (tag_same (varint_at s at) refl)

-- a step of the walk is a field, and the next one begins where it ends
module _ (s : List ℕ) (at : ℕ) where
  pub step_field : (f : Field) (next : ℕ) → field_step s at ≡ item f next → (field_at s at ≡ Some f) × (f.end ≡ next)
  unfolding field_step
  step_field f next = go (field_at s at)
    where
      go : (r : Option Field) → stepped r ≡ item f next → (r ≡ Some f) × (f.end ≡ next)
      go (Some g) e = (cc, cc)
      go None e = let z : ◌≡◌ {A = ℕ} 0 1 = cc in absurd (omega arith)
