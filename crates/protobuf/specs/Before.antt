-- A field as it was told before document 02, Q-8: its number, its wire type, its value, and where its bytes stand; and that it stands.
use Rattle.std.specs.Prelude.{ℕ, ◌/◌, ◌%◌, ◌^◌, ◌≡◌, List, eqb, ltb, leb, length, None, Option, Some}
use Rattle.buffer.specs.Pick.{pick}
use Rattle.buffer.specs.Stretch.{stretch}
use Rattle.varint.specs.Before.{number_before, delimited_before}
use Rattle.protobuf.specs.Field.{field_at}
use Rattle.protobuf.specs.declared.Field.{Field}

pub record Told : Type 0 where
  pub number : ℕ
  pub wire : ℕ
  pub value : ℕ
  pub start : ℕ
  pub end : ℕ

unfoldable pub numbered_before : ℕ → Option (ℕ × ℕ) → Option Told
numbered_before n (Some x) = Some (record { number = n; wire = 0; value = x.0; start = x.1; end = x.1 })
numbered_before n None = None

unfoldable pub spanned_before : ℕ → ℕ → ℕ → Option ℕ → Option Told
spanned_before n w start (Some end) = Some (record { number = n; wire = w; value = 0; start = start; end = end })
spanned_before n w start None = None

unfoldable pub held_before : ℕ → Option (ℕ × ℕ) → Option Told
held_before n (Some x) = Some (record { number = n; wire = 2; value = 0; start = x.0; end = x.1 })
held_before n None = None

unfoldable pub content_before : List ℕ → ℕ → ℕ → ℕ → Option Told
content_before s n w at =
    pick (eqb w 0) (numbered_before n (number_before s at))
    (pick (eqb w 1) (spanned_before n w at (stretch (length s) at 8))
    (pick (eqb w 2) (held_before n (delimited_before s at))
    (pick (eqb w 5) (spanned_before n w at (stretch (length s) at 4))
    None)))

unfoldable pub tag_before : List ℕ → Option (ℕ × ℕ) → Option Told
tag_before s (Some x) = pick (leb (2 ^ 32) x.0) None (pick (ltb x.0 8) None (content_before s (x.0 / 8) (x.0 % 8) x.1))
tag_before s None = None

unfoldable pub field_before : List ℕ → ℕ → Option Told
field_before s at = tag_before s (number_before s at)

abbrev pub field_in : Option Field → Option Told
field_in (Some f) = Some (record { number = f.number; wire = f.wire; value = f.value; start = f.start; end = f.end })
field_in None = None

-- what is told now is the same, but for `padded`
abbrev pub FieldsStand : Type 0
FieldsStand = (s : List ℕ) (at : ℕ) → field_in (field_at s at) ≡ field_before s at
