-- What the walk over a message finds, by the rows of its table; and tables as lists of numbers, which is how the code has them.
use Rattle.std.specs.Prelude.{ℕ, ◌+◌, List, [], ◌∷◌, ◌++◌, map, Bool, ◌&&◌, length, eqb, Option}
use Rattle.buffer.specs.Pick.{pick}
use Rattle.protobuf.specs.Field.{fields}
use Rattle.message.specs.Read.{wire_of, count_more, number_of, flag_of, place_of}
use Rattle.protobuf.specs.declared.Field.{Field}
use Rattle.message.specs.declared.Reading.{Reading}
use Rattle.tables.specs.Table.{Kind, uint32, bool, bytes, string, strings, message, messages, Table, end, row, Content, content_of, readable, padded}
use Rattle.protobuf.specs.declared.Span.{Span}

-- the number of a kind: below 8 a varint, from 11 on what holds messages
abbrev pub kind_number : Kind → ℕ
kind_number uint32 = 0
kind_number bool = 1
kind_number bytes = 8
kind_number string = 9
kind_number strings = 10
kind_number (message T) = 11
kind_number (messages T) = 12

abbrev pub wire_of_kind : Kind → ℕ
wire_of_kind k = wire_of (kind_number k)

-- a table as a list of numbers: for each row its field's number, its kind, the length of the table of what it holds, and that table
unfoldable mutual
  pub held_rows : Kind → List ℕ
  held_rows uint32 = []
  held_rows bool = []
  held_rows bytes = []
  held_rows string = []
  held_rows strings = []
  held_rows (message T) = rows_of T
  held_rows (messages T) = rows_of T

  pub rows_of : Table → List ℕ
  rows_of end = []
  rows_of (row n k T) = n ∷ kind_number k ∷ length (held_rows k) ∷ (held_rows k ++ rows_of T)

-- what is found of a row: how many fields there were (up to 2^32 - 1); of the last one its value, or where its bytes start; where they end
pub record Cell : Type 0 where
  pub count : ℕ
  pub first : ℕ
  pub stop : ℕ

abbrev pub no_cell : Cell
no_cell = record { count = 0; first = 0; stop = 0 }

-- what is found of each row, and behind it of the rows of the message that it holds, its parts merged; of messages that repeat only the count of
-- their row means something, since their parts are merged here too
abbrev mutual
  pub Held : Kind → Type 0
  Held uint32 = Unit {0}
  Held bool = Unit {0}
  Held bytes = Unit {0}
  Held string = Unit {0}
  Held strings = Unit {0}
  Held (message T) = Found T
  Held (messages T) = Found T

  pub Found : Table → Type 0
  Found end = Unit {0}
  Found (row n k T) = (Cell × Held k) × Found T

-- before the first field
unfoldable mutual
  pub none_held : (k : Kind) → Held k
  none_held uint32 = tt
  none_held bool = tt
  none_held bytes = tt
  none_held string = tt
  none_held strings = tt
  none_held (message T) = none_found T
  none_held (messages T) = none_found T

  pub none_found : (T : Table) → Found T
  none_found end = tt
  none_found (row n k T) = ((no_cell, none_held k), none_found T)

-- a field, and where its bytes stand in the whole value
pub record Placed : Type 0 where
  pub content : Content
  pub start : ℕ
  pub stop : ℕ

abbrev pub placed_at : ℕ → List ℕ → Field → Placed
placed_at base s f = record { content = content_of s f; start = base + f.start; stop = base + f.end }

-- the fields of a message that begins at `base` of the whole value
unfoldable pub placed : ℕ → List ℕ → List Placed
placed base s = map (placed_at base s) (fields s).items

-- a field counts for the row of its number, where it has the wire type of the row's kind
abbrev pub is_of : ℕ → ℕ → Placed → Bool
is_of n w p = eqb p.content.number n && eqb p.content.wire w

unfoldable pub cell_with : Cell → Placed → Cell
cell_with c p =
    record { count = count_more c.count; first = pick (eqb p.content.wire 0) p.content.value p.start; stop = p.stop }

unfoldable pub each_in : {A : Type 0} → (A → Placed → A) → A → List Placed → A
each_in step a [] = a
each_in step a (p ∷ ps) = each_in step (step a p) ps

unfoldable mutual
  pub held_with : (k : Kind) → Held k → Placed → Held k
  held_with uint32 h p = tt
  held_with bool h p = tt
  held_with bytes h p = tt
  held_with string h p = tt
  held_with strings h p = tt
  held_with (message T) h p = each_in (λ (g : Found T) (q : Placed). found_with T g q) h (placed p.start p.content.bytes)
  held_with (messages T) h p = each_in (λ (g : Found T) (q : Placed). found_with T g q) h (placed p.start p.content.bytes)

  -- one field more: it counts for its row, over an earlier one, and what it holds for the rows of that
  pub found_with : (T : Table) → Found T → Placed → Found T
  found_with end g p = tt
  found_with (row n k T) g p =
      (pick (is_of n (wire_of_kind k) p) (cell_with g.0.0 p, held_with k g.0.1 p) g.0, found_with T g.1 p)

-- what the walk over a value finds
unfoldable pub found_in : (T : Table) → List ℕ → Found T
found_in T s = each_in (found_with T) (none_found T) (placed 0 s)

-- the same as a list of numbers, three for each row
unfoldable mutual
  pub held_cells : (k : Kind) → Held k → List ℕ
  held_cells uint32 h = []
  held_cells bool h = []
  held_cells bytes h = []
  held_cells string h = []
  held_cells strings h = []
  held_cells (message T) h = cells_of T h
  held_cells (messages T) h = cells_of T h

  pub cells_of : (T : Table) → Found T → List ℕ
  cells_of end g = []
  cells_of (row n k T) g = g.0.0.count ∷ g.0.0.first ∷ g.0.0.stop ∷ (held_cells k g.0.1 ++ cells_of T g.1)

-- what counts of a row
abbrev pub number_in : Cell → Option ℕ
number_in c = number_of c.count c.first

abbrev pub flag_in : Cell → Option Bool
flag_in c = flag_of c.count c.first

abbrev pub bytes_in : Cell → Option Span
bytes_in c = place_of c.count c.first c.stop

-- what the walk tells of a value as a whole
abbrev pub reading_of : Table → List ℕ → Reading
reading_of T s = record { readable = readable T s; padded = padded T s }
