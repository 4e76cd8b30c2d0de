-- Fields, document 01, "Records and fields" (Protocol Buffers encoding, "Message Structure"). Document 02, Q-8: padded where its tag, its length or
-- its number is; its bytes don't count.
use Rattle.std.specs.Prelude.{ℕ, ◌-◌, ◌/◌, ◌%◌, ◌^◌, List, Bool, ◌||◌, length, take, drop, eqb, ltb, leb, None, Option, Some}
use Rattle.buffer.specs.Pick.{pick}
use Rattle.buffer.specs.Stretch.{stretch}
use Rattle.buffer.specs.Walk.{Walked, walk, item, unreadable}
use Rattle.buffer.specs.Walk
use Rattle.varint.specs.Varint.{varint_at, delimited_at}
use Rattle.protobuf.specs.declared.Field.{Field}
use Rattle.varint.specs.declared.Delimited.{Delimited}
use Rattle.varint.specs.declared.Varint.{Varint}

-- wire type 0: a number; it has no bytes
unfoldable pub numbered : ℕ → Bool → Option Varint → Option Field
numbered n padded (Some x) =
    Some (record { number = n; wire = 0; value = x.value; start = x.next; end = x.next; padded = padded || x.padded })
numbered n padded None = None

-- wire type 2: bytes behind their length
unfoldable pub held : ℕ → Bool → Option Delimited → Option Field
held n padded (Some x) =
    Some (record { number = n; wire = 2; value = 0; start = x.start; end = x.end; padded = padded || x.padded })
held n padded None = None

-- wire types 1 and 5: bytes of a fixed length
unfoldable pub spanned : ℕ → ℕ → Bool → ℕ → Option ℕ → Option Field
spanned n w padded start (Some end) = Some (record { number = n; wire = w; value = 0; start = start; end = end; padded = padded })
spanned n w padded start None = None

-- behind a tag, padded or not: wire types 0, 1, 2, 5 are read, others refused
unfoldable pub content_at : List ℕ → ℕ → ℕ → Bool → ℕ → Option Field
content_at s n w padded at =
    pick (eqb w 0) (numbered n padded (varint_at s at))
    (pick (eqb w 1) (spanned n w padded at (stretch (length s) at 8))
    (pick (eqb w 2) (held n padded (delimited_at s at))
    (pick (eqb w 5) (spanned n w padded at (stretch (length s) at 4))
    None)))

-- a tag is number·8 + wire type, below 2^32, number not 0
unfoldable pub of_tag : List ℕ → Option Varint → Option Field
of_tag s (Some x) =
    pick (leb (2 ^ 32) x.value) None (pick (ltb x.value 8) None (content_at s (x.value / 8) (x.value % 8) x.padded x.next))
of_tag s None = None

-- the field at a position of a message
unfoldable pub field_at : List ℕ → ℕ → Option Field
field_at s at = of_tag s (varint_at s at)

-- a field's step of the walk: the next one begins where it ends
abbrev pub stepped : Option Field → Walk.Step Field
stepped (Some f) = item f f.end
stepped None = unreadable

unfoldable pub field_step : List ℕ → ℕ → Walk.Step Field
field_step s at = stepped (field_at s at)

-- the fields of a message from a position on; one that can't be read ends the reading
unfoldable pub fields_from : List ℕ → ℕ → Walked Field
fields_from s at = walk field_step s at

abbrev pub fields : List ℕ → Walked Field
fields s = fields_from s 0

-- a field's bytes
abbrev pub bytes_of : List ℕ → Field → List ℕ
bytes_of s f = take (f.end - f.start) (drop f.start s)
