-- The written form of a message, said of its bytes by themselves (document 01, "Records and fields"): fields ascending, shortest varints. Present fields
-- only, zeros included: what is absent has no field, and a 0 has one like any other number, so nothing is asked of either. Whether strings are text is not
-- asked here but where they are read (`readable`).
use Rattle.std.specs.Prelude.{ℕ, ◌^◌, List, [], ◌∷◌, Bool, true, false, not, ◌&&◌, eqb, ltb, leb}
use Rattle.buffer.specs.Pick.{pick}
use Rattle.protobuf.specs.Field.{fields}
use Rattle.tables.specs.Table.{Kind, uint32, bool, bytes, string, strings, message, messages, Table, end, row, Content, contents}

-- a row has one field at most, that of a list one for each entry
abbrev pub is_list : Kind → Bool
is_list uint32 = false
is_list bool = false
is_list bytes = false
is_list string = false
is_list strings = true
is_list (message T) = false
is_list (messages T) = true

unfoldable pub repeats : Table → ℕ → Bool
repeats end n = false
repeats (row m k T) n = pick (eqb n m) (is_list k) (repeats T n)

-- ascending, once each: a field's number is above the one before it; where the field repeats, it may be the same
unfoldable pub ascending : Table → ℕ → List Content → Bool
ascending T before [] = true
ascending T before (f ∷ fs) =
    pick (repeats T f.number) (leb before f.number) (ltb before f.number) && ascending T f.number fs

unfoldable pub every : (Content → Bool) → List Content → Bool
every test [] = true
every test (f ∷ fs) = test f && every test fs

-- shortest varints: no tag, length or number is padded
abbrev pub is_shortest : Content → Bool
is_shortest f = not f.padded

-- a message whose fields are read to its end, ascend, are spelt shortest and are each known
unfoldable pub form_by : Table → (Content → Bool) → List ℕ → Bool
form_by T known s = (fields s).whole && (ascending T 0 (contents s) && (every is_shortest (contents s) && every known (contents s)))

unfoldable mutual
  -- a field fits a kind by its wire type; a uint32 is below 2^32, a bool 0 or 1, and a message is in the written form itself
  pub fits_kind : Kind → Content → Bool
  fits_kind uint32 f = eqb f.wire 0 && ltb f.value (2 ^ 32)
  fits_kind bool f = eqb f.wire 0 && ltb f.value 2
  fits_kind bytes f = eqb f.wire 2
  fits_kind string f = eqb f.wire 2
  fits_kind strings f = eqb f.wire 2
  fits_kind (message T) f = eqb f.wire 2 && form_by T (λ (g : Content). is_known T g) f.bytes
  fits_kind (messages T) f = eqb f.wire 2 && form_by T (λ (g : Content). is_known T g) f.bytes

  -- known: a row has its number, and it fits the row's kind
  pub is_known : Table → Content → Bool
  is_known end f = false
  is_known (row n k T) f = pick (eqb f.number n) (fits_kind k f) (is_known T f)

-- THE WRITTEN FORM of a message, by its table
unfoldable pub in_form : Table → List ℕ → Bool
in_form T s = form_by T (is_known T) s
