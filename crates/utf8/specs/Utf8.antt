-- Well-formed UTF-8, by the grammar of RFC 3629, section 4 (document 02, Q-5).
use Rattle.std.specs.Prelude.{ℕ, ◌≡◌, List, [], ◌∷◌, Bool, true, false, ◌&&◌, leb, None, Option, Some}
use Rattle.buffer.specs.Pick.{pick}

-- the values of one byte
pub record Range : Type 0 where
  pub low : ℕ
  pub high : ℕ

abbrev pub within : Range → ℕ → Bool
within r b = leb r.low b && leb b r.high

-- a form of a character: its first byte, and those behind it
pub record Form : Type 0 where
  pub first : Range
  pub rest : List Range

abbrev pub to : ℕ → ℕ → Range
to low high = record { low = low; high = high }

abbrev pub form : Range → List Range → Form
form first rest = record { first = first; rest = rest }

-- UTF8-tail
abbrev pub tail : Range
tail = to 0x80 0xBF

-- UTF8-char: UTF8-1, UTF8-2, the four of UTF8-3 and the three of UTF8-4, in the grammar's order. No overlong form, no surrogate, nothing above
-- U+10FFFF
abbrev pub forms : List Form
forms =
    form (to 0x00 0x7F) []
    ∷ form (to 0xC2 0xDF) (tail ∷ [])
    ∷ form (to 0xE0 0xE0) (to 0xA0 0xBF ∷ tail ∷ [])
    ∷ form (to 0xE1 0xEC) (tail ∷ tail ∷ [])
    ∷ form (to 0xED 0xED) (to 0x80 0x9F ∷ tail ∷ [])
    ∷ form (to 0xEE 0xEF) (tail ∷ tail ∷ [])
    ∷ form (to 0xF0 0xF0) (to 0x90 0xBF ∷ tail ∷ tail ∷ [])
    ∷ form (to 0xF1 0xF3) (tail ∷ tail ∷ tail ∷ [])
    ∷ form (to 0xF4 0xF4) (to 0x80 0x8F ∷ tail ∷ tail ∷ [])
    ∷ []

-- what stands behind a first byte, by the form that it begins; no byte begins two
unfoldable pub behind : ℕ → List Form → Option (List Range)
behind b [] = None
behind b (f ∷ fs) = pick (within f.first b) (Some f.rest) (behind b fs)

-- what is left of a character once a byte more has come, if it may stand there; where nothing is left, the byte begins a character
unfoldable pub after : List Range → ℕ → Option (List Range)
after [] b = behind b forms
after (r ∷ rs) b = pick (within r b) (Some rs) None

abbrev pub or_false : (List Range → Bool) → Option (List Range) → Bool
or_false f None = false
or_false f (Some rs) = f rs

abbrev pub is_empty : List Range → Bool
is_empty [] = true
is_empty (r ∷ rs) = false

-- UTF8-octets: characters to the end, the last one not cut short; the ranges are what is left of the character that was begun
unfoldable pub utf8_from : List Range → List ℕ → Bool
utf8_from rs [] = is_empty rs
utf8_from rs (b ∷ s) = or_false (λ (left : List Range). utf8_from left s) (after rs b)

unfoldable pub is_utf8 : List ℕ → Bool
is_utf8 s = utf8_from [] s

-- bytes that are text
abbrev pub IsText : List ℕ → Type 0
IsText s = is_utf8 s ≡ true
