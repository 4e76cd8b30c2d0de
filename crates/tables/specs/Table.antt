-- Messages by tables: one definition reads by a table of the known fields, one writes by it (document 01, "Records and fields"); padding, document
-- 02, Q-8; text, Q-5.
use Rattle.std.specs.Prelude.{ℕ, zero, suc, ◌%◌, ◌^◌, List, [], ◌∷◌, ◌++◌, map, Bool, true, false, not, ◌&&◌, ◌||◌, eqb, None, Option, Some}
use Rattle.buffer.specs.Pick.{pick}
use Rattle.protobuf.specs.Field.{fields, bytes_of}
use Rattle.protobuf.specs.Write.{number_field, bytes_field, if_any, each}
use Rattle.protobuf.specs.declared.Field.{Field}
use Rattle.utf8.specs.Utf8.{is_utf8}

-- What a field may hold, and the known fields of a message: each a number and a kind.
mutual
  pub data Kind : Type 0 where
    uint32 : Kind
    bool : Kind
    bytes : Kind
    string : Kind
    strings : Kind
    message : Table → Kind
    messages : Table → Kind

  pub data Table : Type 0 where
    end : Table
    row : ℕ → Kind → Table → Table

-- What was read for a field, or is to be written: presence is kept, and a repeated field is a list. A message has a value for each row.
abbrev mutual
  pub Value : Kind → Type 0
  Value uint32 = Option ℕ
  Value bool = Option Bool
  Value bytes = Option (List ℕ)
  Value string = Option (List ℕ)
  Value strings = List (List ℕ)
  Value (message T) = Option (Values T)
  Value (messages T) = List (Values T)

  pub Values : Table → Type 0
  Values end = Unit {0}
  Values (row n k T) = Value k × Values T

-- a field by what it holds, wherever it stood, and whether it is padded
pub record Content : Type 0 where
  pub number : ℕ
  pub wire : ℕ
  pub value : ℕ
  pub bytes : List ℕ
  pub padded : Bool

abbrev pub content_of : List ℕ → Field → Content
content_of s f = record { number = f.number; wire = f.wire; value = f.value; bytes = bytes_of s f; padded = f.padded }

unfoldable pub contents : List ℕ → List Content
contents s = map (content_of s) (fields s).items

-- those of a number and a wire type, in order: unknown fields, and known ones with another wire type, are skipped
unfoldable pub alike : ℕ → ℕ → List Content → List Content
alike n w [] = []
alike n w (f ∷ fs) = pick (eqb f.number n) (pick (eqb f.wire w) (f ∷ alike n w fs) (alike n w fs)) (alike n w fs)

-- the last one wins
unfoldable pub last_one : {A : Type 0} → (Content → A) → Option A → List Content → Option A
last_one g v [] = v
last_one g v (f ∷ fs) = last_one g (Some (g f)) fs

-- uint32 takes the low 32 bits; a bool is true unless 0
abbrev pub as_number : Content → ℕ
as_number f = f.value % 2 ^ 32

abbrev pub as_flag : Content → Bool
as_flag f = not (eqb f.value 0)

abbrev pub as_bytes : Content → List ℕ
as_bytes f = f.bytes

-- the parts of a nested message merge: their fields are read as those of one message
unfoldable pub merged : List Content → List Content
merged [] = []
merged (f ∷ fs) = contents f.bytes ++ merged fs

unfoldable pub where_any : {A : Type 0} → (List Content → A) → List Content → Option A
where_any read [] = None
where_any read (f ∷ fs) = Some (read (merged (f ∷ fs)))

unfoldable mutual
  -- a row's value among the fields of a message
  pub value_of : (k : Kind) → ℕ → List Content → Value k
  value_of uint32 n fs = last_one as_number None (alike n 0 fs)
  value_of bool n fs = last_one as_flag None (alike n 0 fs)
  value_of bytes n fs = last_one as_bytes None (alike n 2 fs)
  value_of string n fs = last_one as_bytes None (alike n 2 fs)
  value_of strings n fs = map as_bytes (alike n 2 fs)
  value_of (message T) n fs = where_any (λ (l : List Content). values_of T l) (alike n 2 fs)
  value_of (messages T) n fs = map (λ (f : Content). values_of T (contents f.bytes)) (alike n 2 fs)

  pub values_of : (T : Table) → List Content → Values T
  values_of end fs = tt
  values_of (row n k T) fs = (value_of k n fs, values_of T fs)

-- READING: the values of a message
unfoldable pub read_by : (T : Table) → List ℕ → Values T
read_by T s = values_of T (contents s)

-- what the texts and messages tell that fields hold; `nothing` is told of a field that has no row, or another wire type, or whose row holds neither:
-- it is not read further
module _ (nothing : Bool) (text : List ℕ → Bool) (read : Table → List ℕ → Bool) where
  unfoldable pub held_tells : Kind → Content → Bool
  held_tells uint32 f = nothing
  held_tells bool f = nothing
  held_tells bytes f = nothing
  held_tells string f = pick (eqb f.wire 2) (text f.bytes) nothing
  held_tells strings f = pick (eqb f.wire 2) (text f.bytes) nothing
  held_tells (message T) f = pick (eqb f.wire 2) (read T f.bytes) nothing
  held_tells (messages T) f = pick (eqb f.wire 2) (read T f.bytes) nothing

  unfoldable pub field_tells : Table → Content → Bool
  field_tells end f = nothing
  field_tells (row n k T) f = pick (eqb f.number n) (held_tells k f) (field_tells T f)

-- and whether it can be read: its fields to the end, and so the messages that they hold; document 02, Q-5: every string is well-formed UTF-8, one that
-- a later one overrides too
unfoldable pub all_readable : (Table → List ℕ → Bool) → Table → List Content → Bool
all_readable read T [] = true
all_readable read T (f ∷ fs) = field_tells true is_utf8 read T f && all_readable read T fs

-- a message of at most so many levels, itself the first; nesting stops at 4
unfoldable pub readable_to : ℕ → Table → List ℕ → Bool
readable_to zero T s = false
readable_to (suc d) T s = (fields s).whole && all_readable (readable_to d) T (contents s)

unfoldable pub readable : Table → List ℕ → Bool
readable T s = readable_to 4 T s

-- document 02, Q-8: whether a varint that is read is padded: every tag, length and number, those of skipped fields too, and so in the messages
-- that fields hold; the bytes of a skipped field don't count, nor do those of a text
abbrev pub never : List ℕ → Bool
never bs = false

unfoldable pub any_padded : (Table → List ℕ → Bool) → Table → List Content → Bool
any_padded read T [] = false
any_padded read T (f ∷ fs) = (f.padded || field_tells false never read T f) || any_padded read T fs

unfoldable pub padded_to : ℕ → Table → List ℕ → Bool
padded_to zero T s = false
padded_to (suc d) T s = any_padded (padded_to d) T (contents s)

unfoldable pub padded : Table → List ℕ → Bool
padded T s = padded_to 4 T s

-- WRITING: fields ascending, shortest varints, present fields only, zeros included
abbrev pub flag_number : Bool → ℕ
flag_number true = 1
flag_number false = 0

unfoldable mutual
  pub written : (k : Kind) → ℕ → Value k → List ℕ
  written uint32 n v = if_any (number_field n) v
  written bool n v = if_any (λ (b : Bool). number_field n (flag_number b)) v
  written bytes n v = if_any (bytes_field n) v
  written string n v = if_any (bytes_field n) v
  written strings n v = each (bytes_field n) v
  written (message T) n v = if_any (λ (m : Values T). bytes_field n (write_by T m)) v
  written (messages T) n v = each (λ (m : Values T). bytes_field n (write_by T m)) v

  pub write_by : (T : Table) → Values T → List ℕ
  write_by end v = []
  write_by (row n k T) v = written k n v.0 ++ write_by T v.1
