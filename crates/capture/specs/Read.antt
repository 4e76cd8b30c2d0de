-- Reading a capture, document 01, "Capture and its listing".
use Rattle.std.specs.Prelude.{ℕ, zero, suc, ◌+◌, ◌*◌, ◌-◌, List, [], ◌∷◌, Bool, ◌&&◌, eqb, leb, length, take, drop, get_or, None, Option, Some}
use Rattle.buffer.specs.Pick.{pick}
use Rattle.capture.specs.declared.Entry.{Entry}
use Rattle.capture.specs.declared.Index.{Index}

-- high bytes first; a byte that is not there counts as 0
unfoldable pub byte_at : List ℕ → ℕ → ℕ
byte_at s i = get_or s i 0

unfoldable pub wide16 : List ℕ → ℕ
wide16 s = byte_at s 0 * 256 + byte_at s 1

unfoldable pub wide32 : List ℕ → ℕ
wide32 s = wide16 s * 65536 + wide16 (drop 2 s)

-- an index of 8 bytes each: u32 time, u16 length, u8 verdict, u8 0
unfoldable pub entry_in : List ℕ → Entry
entry_in row = record { time = record { 0 = wide32 row }; verdict = byte_at row 6; len = wide16 (drop 4 row) }

-- a datagram that begins at `start`
unfoldable pub bytes_at : List ℕ → ℕ → ℕ → List ℕ
bytes_at s start len = take len (drop start s)

-- where the datagrams of so many rows end, if each row's last byte is 0
unfoldable pub end_from : ℕ → List ℕ → ℕ → Option ℕ
end_from zero rows at = Some at
end_from (suc n) rows at = pick (eqb (byte_at rows 7) 0) (end_from n (drop 8 rows) (at + wide16 (drop 4 rows))) None

-- a capture whose index begins at a place and has so many entries
abbrev pub indexed : ℕ → ℕ → Option Index
indexed at count = Some (record { at = at; count = count })

-- lengths sum to the rest: the datagrams end where the index begins
unfoldable pub index_in : ℕ → ℕ → Option ℕ → Option Index
index_in index count (Some end) = pick (eqb end index) (indexed index count) None
index_in index count None = None

-- a 6-byte trailer: u32 distance from the file's end back to the index, u16 count
unfoldable pub trailer_of : List ℕ → List ℕ
trailer_of s = drop (length s - 6) s

unfoldable pub distance_in : List ℕ → ℕ
distance_in s = wide32 (trailer_of s)

unfoldable pub count_in : List ℕ → ℕ
count_in s = wide16 (drop 4 (trailer_of s))

-- file at most 65,536; distance = 8·count + 6
unfoldable pub framed : List ℕ → Bool
framed s =
    leb 6 (length s) && (leb (length s) 65536 && (eqb (distance_in s) (count_in s * 8 + 6) && leb (distance_in s) (length s)))

unfoldable pub capture_in : List ℕ → Option Index
capture_in s =
    pick (framed s)
    (index_in (length s - distance_in s) (count_in s) (end_from (count_in s) (drop (length s - distance_in s) s) 0)) None

-- refusal 12: capture file malformed
unfoldable pub outcome_of : Option Index → ℕ
outcome_of (Some index) = 0
outcome_of None = 12

-- the entries, in the index's order
unfoldable pub entries_from : ℕ → List ℕ → List Entry
entries_from zero rows = []
entries_from (suc n) rows = entry_in rows ∷ entries_from n (drop 8 rows)

unfoldable pub entries_of : List ℕ → Option Index → List Entry
entries_of s (Some index) = entries_from index.count (drop index.at s)
entries_of s None = []
