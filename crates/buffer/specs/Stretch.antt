-- A stretch of bytes in a slice.
use Rattle.std.specs.Prelude.{ℕ, ◌+◌, Bool, leb, None, Option, Some}
use Rattle.buffer.specs.Pick.{pick}

-- whether n bytes at `at` lie within the first `len`
unfoldable pub fits : ℕ → ℕ → ℕ → Bool
fits len at n = leb (at + n) len

-- where n bytes from `at` end, in a slice of `len` bytes
unfoldable pub stretch : ℕ → ℕ → ℕ → Option ℕ
stretch len at n = pick (fits len at n) (Some (at + n)) None
