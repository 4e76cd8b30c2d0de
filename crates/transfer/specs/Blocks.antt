-- Blocks, document 01, "Transfer".
use Rattle.std.specs.Prelude.{ℕ, ◌+◌, ◌-◌, ◌*◌, ◌/◌, min}

-- blocks = file size / block size rounded up
unfoldable pub blocks : ℕ → ℕ → ℕ
blocks size each = (size + (each - 1)) / each

-- every block is full but the last, which holds the rest
unfoldable pub block_length : ℕ → ℕ → ℕ → ℕ
block_length size each n = min each (size - n * each)
