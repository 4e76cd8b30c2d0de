-- Texts held by value, with zeros behind them.
use Rattle.std.specs.Prelude.{ℕ, List, length, take, replicate}
use Rattle.std.proofs.lemmas.List.Edits.{sets}
use Rattle.buffer.specs.declared.text.Text.{Text}

-- a text where n bytes have room
abbrev pub text_of : (n : ℕ) → List ℕ → Text n
text_of n s = record { bytes = sets (replicate n 0) 0 s; len = length s }

-- its letters
abbrev pub letters : {n : ℕ} → Text n → List ℕ
letters t = take t.len t.bytes
