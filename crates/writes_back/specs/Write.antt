-- Every capture is one that is written, document 01, "Capture and its listing".
use Rattle.std.specs.Prelude.{ℕ, ◌<◌, ◌≡◌, List}
use Rattle.capture.specs.Read.{byte_at, indexed, capture_in}
use Rattle.capture.specs.Write.{written, items_of}

-- every capture, a file of bytes, is what its items are written as
abbrev pub WritesBack : Type 0
WritesBack =
    (s : List ℕ) → ((i : ℕ) → byte_at s i < 256) → (index count : ℕ) → capture_in s ≡ indexed index count → written (items_of s) ≡ s
