-- Laws of lists of ids: which fields are entries, one field at a time.
use Prim.Native.Nat.{ℕ}
use mathlib.Core.Path.{◌≡◌, refl}
use mathlib.Core.List.{List, [], ◌∷◌, map}
use mathlib.Core.Bool.{Bool, true, false}
use borrow.Author.Tests.{eq-eqb, ne_eqb}
use lib.Dec.{eqb}
use Rattle.buffer.specs.Pick.{pick}
use Rattle.decimal.specs.declared.Ids.{Ids}
use Rattle.protobuf.specs.Field.{bytes_of}
use Rattle.protobuf.specs.declared.Field.{Field}
use Rattle.tables.specs.Table.{strings, Content, content_of, as_bytes, alike, value_of}
use Rattle.decode_report.specs.Report.{with_entry, with_entries, with_field}

-- a field is an entry by its number and its wire type
module _ (v : List ℕ) (ids : Ids) (f : Field) where
  pub field-other-number : (f.number ≡ 2 → ⊥) → with_field v ids f ≡ ids
  unfolding with_field value_of alike with_entries
  field-other-number h = rw (ne_eqb f.number 2 h)

  pub field-other-wire : f.number ≡ 2 → (f.wire ≡ 2 → ⊥) → with_field v ids f ≡ ids
  unfolding with_field value_of alike with_entries
  field-other-wire h k = rw (eq-eqb f.number 2 h, ne_eqb f.wire 2 k)

  pub field-entry : f.number ≡ 2 → f.wire ≡ 2 → with_field v ids f ≡ with_entry ids (bytes_of v f)
  unfolding with_field value_of alike with_entries
  field-entry h k = rw (eq-eqb f.number 2 h, eq-eqb f.wire 2 k)

  -- the entries of the fields behind it come after
  pub field-first : (cs : List Content) → with_entries ids (value_of strings 2 (content_of v f ∷ cs)) ≡ with_entries (with_field v ids f) (value_of strings 2 cs)
  unfolding with_field value_of alike with_entries
  field-first cs = go (eqb f.number 2) (eqb f.wire 2)
    where
      entry : Bool → Bool → List Content → List Content
      entry t u l = pick t (pick u (content_of v f ∷ l) l) l

      go : (t u : Bool) → with_entries ids (map as_bytes (entry t u (alike 2 2 cs))) ≡ with_entries (with_entries ids (map as_bytes (entry t u []))) (map as_bytes (alike 2 2 cs))
      go true true = refl
      go true false = refl
      go false u = refl
