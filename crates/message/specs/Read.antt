-- Reading a message by its table in one walk, document 01, "Records and fields": unknown fields, and known ones with another wire type, are
-- skipped; the last one wins; the parts of a nested message merge; nesting stops at 4. Document 02, Q-8: a varint that is read is padded or not;
-- Q-5: a string is well-formed UTF-8.
use Rattle.std.specs.Prelude.{ℕ, zero, suc, ◌+◌, ◌-◌, ◌%◌, ◌^◌, ◌≡◌, List, [], ◌∷◌, ◌++◌, Bool, true, false, not, ◌&&◌, ◌||◌, length, get_or, set, take, drop, eqb, ltb, None, Option, Some}
use Rattle.buffer.specs.Pick.{pick}
use Rattle.buffer.specs.Stretch.{stretch}
use Rattle.buffer.specs.Walk.{Step, item, unreadable, walk}
use Rattle.protobuf.specs.Field.{fields, bytes_of}
use Rattle.protobuf.specs.declared.Field.{Field}
use Rattle.utf8.specs.Utf8.{is_utf8}
use Rattle.message.specs.declared.Reading.{Reading}
use Rattle.message.specs.declared.Row.{Row}
use Rattle.protobuf.specs.Given.{spanning}
use Rattle.protobuf.specs.declared.Span.{Span}

-- A table is a list of numbers. A row is a field's number, its kind, and how many numbers the table of the message that it holds takes; that
-- table stands behind it. Of a kind below 8 the wire type is 0, a varint, of another 2, length-delimited; 9 and 10 hold text, one from 11 on a
-- message.
unfoldable pub wire_of : ℕ → ℕ
wire_of kind = pick (ltb kind 8) 0 2

unfoldable pub row_to : ℕ → ℕ → ℕ → Option ℕ → Step Row
row_to n kind i (Some end) = item (record { number = n; kind = kind; at = i; end = end }) end
row_to n kind i None = unreadable

unfoldable pub row_step : List ℕ → ℕ → Step Row
row_step table i = row_to (get_or table i 0) (get_or table (i + 1) 0) i (stretch (length table) (i + 3) (get_or table (i + 2) 0))

-- what a table says of a field number: the first row that has it
unfoldable pub first_row : ℕ → List Row → Option Row
first_row n [] = None
first_row n (r ∷ rs) = pick (eqb r.number n) (Some r) (first_row n rs)

unfoldable pub row_in : List ℕ → ℕ → Option Row
row_in table n = first_row n (walk row_step table 0).items

-- What is found of a row stands at the row's place in a list as long as the table: how many fields there were (up to 2^32 - 1); of the last
-- one its value, or where its bytes start in the whole value; where they end.
unfoldable pub count_more : ℕ → ℕ
count_more n = pick (ltb n 4294967295) (n + 1) n

unfoldable pub first_of : ℕ → Field → ℕ
first_of base f = pick (eqb f.wire 0) f.value (base + f.start)

-- one field more of the row at i
unfoldable pub noted : List ℕ → ℕ → ℕ → Field → List ℕ
noted cells i base f = set (set (set cells i (count_more (get_or cells i 0))) (i + 1) (first_of base f)) (i + 2) (base + f.end)

-- what is told where nothing was padded
abbrev pub unpadded : Bool → Reading
unpadded readable = record { readable = readable; padded = false }

-- a field more: it is padded or not, and what it holds tells the rest
abbrev pub joined : Reading → Bool → Reading → Reading
joined before padded held = record { readable = before.readable && held.readable; padded = before.padded || (padded || held.padded) }

-- the end of the fields: one that can't be read makes the message unreadable
abbrev pub sealed : Bool → Reading → Reading
sealed whole x = record { readable = whole && x.readable; padded = x.padded }

-- what is told of all, and what was found
pub record Scan : Type 0 where
  pub reading : Reading
  pub cells : List ℕ

abbrev pub scanned : Reading → List ℕ → Scan
scanned reading cells = record { reading = reading; cells = cells }

-- what was found of the rows from a up to e, put back in its place
abbrev pub spliced : List ℕ → ℕ → ℕ → Scan → Scan
spliced cells a e x = scanned x.reading (take a cells ++ (x.cells ++ drop e cells))

-- what a field tells that holds no message: a string must be text, also where a later one overrides it
unfoldable pub plain_read : ℕ → List ℕ → Reading
plain_read kind bs = unpadded (pick (ltb kind 9) true (is_utf8 bs))

-- a message that begins at `base` of the whole value: by a table, over what was found before
module _ (read : List ℕ → List ℕ → ℕ → List ℕ → Scan) where
  -- the message that a field holds, by the rows of its own table
  unfoldable pub held_read : List ℕ → List ℕ → ℕ → ℕ → ℕ → List ℕ → Scan
  held_read table cells a e base bs = spliced cells a e (read (take (e - a) (drop a table)) (take (e - a) (drop a cells)) base bs)

  -- a field, by what the table says of its number
  unfoldable pub known_read : List ℕ → List ℕ → ℕ → List ℕ → Field → Option Row → Scan
  known_read table cells base s f (Some x) =
      pick (eqb (wire_of x.kind) f.wire)
      (pick (ltb x.kind 11) (scanned (plain_read x.kind (bytes_of s f)) (noted cells x.at base f))
      (held_read table (noted cells x.at base f) (x.at + 3) x.end (base + f.start) (bytes_of s f)))
      (scanned (unpadded true) cells)
  known_read table cells base s f None = scanned (unpadded true) cells

  unfoldable pub field_read : List ℕ → List ℕ → ℕ → List ℕ → Field → Scan
  field_read table cells base s f = known_read table cells base s f (row_in table f.number)

  -- the fields one by one, skipped ones too; a string or a held message that can't be read makes the value unreadable, and the fields behind it are
  -- still noted
  unfoldable pub read_all : List ℕ → ℕ → List ℕ → Reading → List ℕ → Bool → List Field → Scan
  read_all table base s told cells whole [] = scanned (sealed whole told) cells
  read_all table base s told cells whole (f ∷ fs) =
      read_all table base s (joined told f.padded (field_read table cells base s f).reading) (field_read table cells base s f).cells whole fs

-- a message of at most so many levels, itself the first
unfoldable pub message_read : ℕ → List ℕ → List ℕ → ℕ → List ℕ → Scan
message_read zero table cells base s = scanned (unpadded false) cells
message_read (suc d) table cells base s = read_all (message_read d) table base s (unpadded true) cells (fields s).whole (fields s).items

-- a whole value, where what is found has a place for each row
unfoldable pub read_into : List ℕ → List ℕ → List ℕ → Scan
read_into table cells s = pick (eqb (length cells) (length table)) (message_read 4 table cells 0 s) (scanned (unpadded false) cells)

-- what a call leaves
pub record Scanned (x : Scan) (r : Reading) (left : List ℕ) : Type 0 where
  pub reading : r ≡ x.reading
  pub cells : left ≡ x.cells

-- a message that must also be within a limit
abbrev pub limited : Reading → Bool → Reading
limited x within = record { readable = x.readable && within; padded = x.padded }

-- what counts of a row, by what was found of it: uint32 takes the low 32 bits; a bool is true unless 0; bytes by their place in the value
unfoldable pub number_of : ℕ → ℕ → Option ℕ
number_of count first = pick (eqb count 0) None (Some (first % 2 ^ 32))

unfoldable pub flag_of : ℕ → ℕ → Option Bool
flag_of count first = pick (eqb count 0) None (Some (not (eqb first 0)))

unfoldable pub place_of : ℕ → ℕ → ℕ → Option Span
place_of count start stop = pick (eqb count 0) None (spanning start stop)
