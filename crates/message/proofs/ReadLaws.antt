-- Laws of the walk by a table: what a field does to what was found, and a message by the levels that are left.
use Rattle.std.specs.Prelude.{None}
use Prim.Native.Nat.{ℕ, zero, suc, ◌+◌, ◌-◌, ◌≤◌, ◌<◌}
use mathlib.Core.Path.{◌≡◌, refl, sym, ap, ◌∙◌}
use mathlib.Core.List.{List, [], ◌∷◌, ◌++◌}
use mathlib.Core.Bool.{Bool, true, false}
use native.Mathlib.Numerals.{sub-one}
use borrow.Author.Tests.{eq-eqb, ne_eqb, lt-ltb, le-ltb}
use native.Mathlib.Omega.{arith}
use borrow.Rule.Slice.PartMut.{put_mid, Post-is}
use lib.ListN.{length, take, drop, length-set, length-take, length-drop}
use Rattle.buffer.specs.Walk.{Walked}
use Rattle.protobuf.specs.Field.{bytes_of, fields_from}
use Rattle.message.proofs.RowLaws.{row_found}
use Rattle.message.specs.Read.{wire_of, row_in, noted, unpadded, joined, sealed, Scan, scanned, plain_read, held_read, known_read, field_read, read_all, message_read, read_into, Scanned}
use Rattle.protobuf.specs.declared.Field.{Field}
use Rattle.utf8.specs.Utf8.{is_utf8}
use Rattle.message.specs.declared.Reading.{Reading}

-- what a call leaves, by an equation
pub leaves : {x : Scan} {r : Reading} {left : List ℕ} (t : Reading) (cells : List ℕ) → x ≡ scanned t cells → r ≡ t → left ≡ cells → Scanned x r left
leaves t cells e p q = record { reading = p ∙ ap (λ (y : Scan). y.reading) (sym e); cells = q ∙ ap (λ (y : Scan). y.cells) (sym e) }

-- a field that holds no message
pub plain_other : (kind : ℕ) (bs : List ℕ) → kind < 9 → plain_read kind bs ≡ unpadded true
unfolding plain_read
plain_other kind bs h = rw (lt-ltb kind 9 h)

pub plain-text : (kind : ℕ) (bs : List ℕ) → 9 ≤ kind → plain_read kind bs ≡ unpadded (is_utf8 bs)
unfolding plain_read
plain-text kind bs h = rw (le-ltb kind 9 h)

-- a field, by what the table says of its number
module _ (read : List ℕ → List ℕ → ℕ → List ℕ → Scan) (table cells : List ℕ) (base : ℕ) (s : List ℕ) (f : Field) where
  pub field-unknown : row_in table f.number ≡ None → field_read read table cells base s f ≡ scanned (unpadded true) cells
  unfolding field_read known_read
  field-unknown e = rw e

  module _ (n kind i e : ℕ) (k : row_in table f.number ≡ row_found n kind i e) where
    pub field-other : (wire_of kind ≡ f.wire → ⊥) → field_read read table cells base s f ≡ scanned (unpadded true) cells
    unfolding field_read known_read
    field-other h = rw (k, ne_eqb (wire_of kind) f.wire h)

    module _ (h : wire_of kind ≡ f.wire) where
      pub field-noted : kind < 11 → field_read read table cells base s f ≡ scanned (plain_read kind (bytes_of s f)) (noted cells i base f)
      unfolding field_read known_read
      field-noted l = rw (k, eq-eqb (wire_of kind) f.wire h, lt-ltb kind 11 l)

      pub field-held : 11 ≤ kind
          → field_read read table cells base s f ≡ held_read read table (noted cells i base f) (i + 3) e (base + f.start) (bytes_of s f)
      unfolding field_read known_read
      field-held l = rw (k, eq-eqb (wire_of kind) f.wire h, le-ltb kind 11 l)

-- the fields walked over, to the end
abbrev pub remaining : (List ℕ → List ℕ → ℕ → List ℕ → Scan) → List ℕ → ℕ → List ℕ → Reading → List ℕ → Walked Field → Scan
remaining read table base s told cells x = read_all read table base s told cells x.whole x.items

module _ (read : List ℕ → List ℕ → ℕ → List ℕ → Scan) (table : List ℕ) (base : ℕ) (s : List ℕ) (told : Reading) (whole : Bool) (cells : List ℕ) where
  pub all-ended : read_all read table base s told cells whole [] ≡ scanned (sealed whole told) cells
  unfolding read_all
  all-ended = refl

  pub all_more : (f : Field) (fs : List Field) (t : Reading) (after : List ℕ) (r : Reading) → Scanned (field_read read table cells base s f) r after → t ≡ joined told f.padded r
      → read_all read table base s told cells whole (f ∷ fs) ≡ read_all read table base s t after whole fs
  unfolding read_all
  all_more f fs t after r x e = rw (e, x.reading, x.cells)

-- a message, by the levels that are left
pub message-none : (depth : ℕ) (table cells : List ℕ) (base : ℕ) (s : List ℕ) → depth ≡ 0 → message_read depth table cells base s ≡ scanned (unpadded false) cells
unfolding message_read
message-none depth table cells base s h = rw h

pub message-fields : (depth : ℕ) (table cells : List ℕ) (base : ℕ) (s : List ℕ) → (depth ≡ 0 → ⊥)
    → message_read depth table cells base s ≡ remaining (message_read (depth - 1)) table base s (unpadded true) cells (fields_from s 0)
unfolding message_read
message-fields zero table cells base s h = absurd (h refl)
message-fields (suc d) table cells base s h = rw (sub-one (suc d))

-- a whole value
pub into-other : (table cells s : List ℕ) → (length cells ≡ length table → ⊥) → read_into table cells s ≡ scanned (unpadded false) cells
unfolding read_into
into-other table cells s h = rw (ne_eqb (length cells) (length table) h)

pub into-same : (table cells s : List ℕ) → length cells ≡ length table → read_into table cells s ≡ message_read 4 table cells 0 s
unfolding read_into
into-same table cells s h = rw (eq-eqb (length cells) (length table) h)

-- lengths: of what was found, and of parts
pub noted-length : (cells : List ℕ) (i base : ℕ) (f : Field) → length (noted cells i base f) ≡ length cells
unfolding noted
noted-length cells i base f = simp length-set

pub part_length : (k a : ℕ) (l m : List ℕ) → length l ≡ length m → length (take k (drop a l)) ≡ length (take k (drop a m))
part_length k a l m e = simp (length-take, length-drop, e)

pub part-most : (k a : ℕ) (l : List ℕ) → length (take k (drop a l)) ≤ k
part-most k a l = let e = length-take k (drop a l) in omega arith

-- the message that a field holds, read in the part of what was found that its rows have
module _ (read : List ℕ → List ℕ → ℕ → List ℕ → Scan) (table cells : List ℕ) (base : ℕ) (s : List ℕ) (f : Field) (n kind i e : ℕ)
    (k : row_in table f.number ≡ row_found n kind i e) (h : wire_of kind ≡ f.wire) (l : 11 ≤ kind) (w : i + 3 ≤ e) (after : List ℕ) (q : after ≡ noted cells i base f) where
  pub field-into : {r : Reading} {left : List ℕ}
      → Scanned (read (take (e - (i + 3)) (drop (i + 3) table)) (take (e - (i + 3)) (drop (i + 3) after)) (base + f.start) (bytes_of s f)) r left
      → Scanned (field_read read table cells base s f) r (put_mid (i + 3) (e - (i + 3)) after left)
  unfolding held_read
  field-into x =
      let a = i + 3 in
      let z = read (take (e - a) (drop a table)) (take (e - a) (drop a after)) (base + f.start) (bytes_of s f) in
      leaves z.reading (take a after ++ (z.cells ++ drop e after))
      (field-held read table cells base s f n kind i e k h l ∙ ap (λ (c : List ℕ). held_read read table c a e (base + f.start) (bytes_of s f)) (sym q)) x.reading
      (rw (Post-is a e after w, x.cells))
