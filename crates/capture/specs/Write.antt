-- Writing a capture, and that it reads back, document 01, "Capture and its listing".
use Rattle.std.specs.Prelude.{ℕ, ◌+◌, ◌*◌, ◌/◌, ◌%◌, ◌≤◌, ◌≡◌, List, [], ◌∷◌, ◌++◌, length}
use Rattle.schedule.specs.declared.Point.{Point}
use Rattle.capture.specs.Read.{bytes_at, indexed, capture_in, entries_of}
use Rattle.capture.specs.declared.Entry.{Entry}

-- what an entry holds
pub record Item : Type 0 where
  pub time : Point
  pub verdict : ℕ
  pub bytes : List ℕ

-- high bytes first
unfoldable pub bytes16 : ℕ → List ℕ
bytes16 n = n / 256 ∷ n % 256 ∷ []

unfoldable pub bytes32 : ℕ → List ℕ
bytes32 n = bytes16 (n / 65536) ++ bytes16 (n % 65536)

-- datagrams back to back
unfoldable pub datagrams : List Item → List ℕ
datagrams [] = []
datagrams (i ∷ is) = i.bytes ++ datagrams is

-- an index of 8 bytes each: u32 time, u16 length, u8 verdict, u8 0
unfoldable pub row_of : Item → List ℕ
row_of i = bytes32 i.time.0 ++ (bytes16 (length i.bytes) ++ (i.verdict ∷ 0 ∷ []))

unfoldable pub rows : List Item → List ℕ
rows [] = []
rows (i ∷ is) = row_of i ++ rows is

-- a 6-byte trailer
unfoldable pub written : List Item → List ℕ
written is = datagrams is ++ (rows is ++ (bytes32 (length is * 8 + 6) ++ bytes16 (length is)))

-- the items of a file: a datagram begins where the one before it ends; none where the file is malformed
unfoldable pub items_from : List ℕ → ℕ → List Entry → List Item
items_from s at [] = []
items_from s at (e ∷ es) = record { time = e.time; verdict = e.verdict; bytes = bytes_at s at e.len } ∷ items_from s (at + e.len) es

unfoldable pub items_of : List ℕ → List Item
items_of s = items_from s 0 (entries_of s (capture_in s))

-- what is written, at most 65,536 bytes, is a capture and reads back
abbrev pub ReadsBack : Type 0
ReadsBack =
    (is : List Item) → length (written is) ≤ 65536
    → (capture_in (written is) ≡ indexed (length (datagrams is)) (length is)) × (items_of (written is) ≡ is)
