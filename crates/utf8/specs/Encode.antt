-- UTF-8 encoded, RFC 3629, section 3: the bytes of a character number.
use Rattle.std.specs.Prelude.{ℕ, ◌+◌, ◌/◌, ◌%◌, List, [], ◌∷◌, ◌++◌, Bool, ◌&&◌, ◌||◌, leb}
use Rattle.buffer.specs.Pick.{pick}

-- a scalar value: U+0000 to U+D7FF, U+E000 to U+10FFFF
unfoldable pub is_scalar : ℕ → Bool
is_scalar c = leb c 0xD7FF || (leb 0xE000 c && leb c 0x10FFFF)

-- up to 7F one byte, up to 7FF two, up to FFFF three, up to 10FFFF four: the bits in order, six in each byte behind the first. Of numbers that are
-- no scalar values the bytes are no text
unfoldable pub encoded : ℕ → List ℕ
encoded c =
    pick (leb c 0x7F) (c ∷ [])
    (pick (leb c 0x7FF) ((0xC0 + c / 64) ∷ (0x80 + c % 64) ∷ [])
    (pick (leb c 0xFFFF) ((0xE0 + c / 4096) ∷ (0x80 + c / 64 % 64) ∷ (0x80 + c % 64) ∷ [])
    ((0xF0 + c / 262144) ∷ (0x80 + c / 4096 % 64) ∷ (0x80 + c / 64 % 64) ∷ (0x80 + c % 64) ∷ [])))

unfoldable pub all_encoded : List ℕ → List ℕ
all_encoded [] = []
all_encoded (c ∷ cs) = encoded c ++ all_encoded cs
