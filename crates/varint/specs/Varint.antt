-- Varints, document 01, "Records and fields" (Protocol Buffers encoding, "Base 128 Varints"); padded ones, document 02, Q-8.
use Rattle.std.specs.Prelude.{ℕ, zero, suc, ◌+◌, ◌*◌, ◌/◌, ◌%◌, List, [], ◌∷◌, ◌++◌, Bool, false, ◌||◌, length, drop, eqb, ltb, None, Option, Some}
use Rattle.buffer.specs.Pick.{pick}
use Rattle.buffer.specs.Stretch.{stretch}
use Rattle.varint.specs.declared.Delimited.{Delimited}
use Rattle.varint.specs.declared.Varint.{Varint}

-- a number that stands at a position, and bytes that stand behind their length
abbrev pub stands : ℕ → ℕ → Bool → Option Varint
stands v next padded = Some (record { value = v; next = next; padded = padded })

abbrev pub encloses : ℕ → ℕ → Bool → Option Delimited
encloses start end padded = Some (record { start = start; end = end; padded = padded })

-- a byte with more behind it gives its low seven bits; where the rest is 0 its bytes add nothing, and the spelling is padded
unfoldable pub more : ℕ → Option Varint → Option Varint
more b (Some x) = stands (b % 128 + 128 * x.value) x.next (x.padded || eqb x.value 0)
more b None = None

-- the number spelt by the first bytes of a list that stands at `at`: k bytes may follow the first, and one after which none may is 0 or 1
unfoldable pub spelt : ℕ → List ℕ → ℕ → Option Varint
spelt k [] at = None
spelt zero (b ∷ s) at = pick (ltb b 2) (stands b (at + 1) false) None
spelt (suc k) (b ∷ s) at = pick (ltb b 128) (stands b (at + 1) false) (more b (spelt k s (at + 1)))

-- the number at a position: at most ten bytes; longer spellings are read, and said to be padded
unfoldable pub varint_at : List ℕ → ℕ → Option Varint
varint_at s at = spelt 9 (drop at s) at

-- a byte that has more behind it
unfoldable pub continued : ℕ → ℕ
continued d = d + 128

-- the shortest spelling, where k bytes may follow the first
unfoldable pub spelling : ℕ → ℕ → List ℕ
spelling zero v = v ∷ []
spelling (suc k) v = pick (ltb v 128) (v ∷ []) (continued (v % 128) ∷ spelling k (v / 128))

-- the shortest spelling of a number below 2^64
unfoldable pub varint : ℕ → List ℕ
varint v = spelling 9 v

-- padded: the bytes from a position up to the next are more than the shortest spelling of the number has
unfoldable pub is_longer : ℕ → ℕ → ℕ → Bool
is_longer at v next = ltb (at + length (varint v)) next

-- two numbers, one after the other
unfoldable pub two : ℕ → ℕ → List ℕ
two a b = varint a ++ varint b

-- a key, a length and as many bytes: the form of a record, and of a field that holds bytes
unfoldable pub delimited : ℕ → List ℕ → List ℕ
delimited key bs = two key (length bs) ++ bs

-- the bytes of a length that was read, padded or not, where they end in the slice
unfoldable pub of_stretch : ℕ → Bool → Option ℕ → Option Delimited
of_stretch start padded (Some end) = encloses start end padded
of_stretch start padded None = None

unfoldable pub of_length : List ℕ → Option Varint → Option Delimited
of_length s (Some x) = of_stretch x.next x.padded (stretch (length s) x.next x.value)
of_length s None = None

-- the bytes behind the length at a position
unfoldable pub delimited_at : List ℕ → ℕ → Option Delimited
delimited_at s at = of_length s (varint_at s at)
