-- What the agent sends, document 01, "Requests": replies have no token, and those with payload carry option 12 = 42 alone; own POSTs one
-- option 11, `r` or `c`, then 12 = 42; a delayed answer to a URL of its own (document 02, Q-1) 12 = 42 alone.
use Rattle.std.specs.Prelude.{ℕ, ◌/◌, ◌%◌, List, [], ◌∷◌, Bool, true, false}

-- a reset: type RST, code 0.00
abbrev pub reset : ℕ → List ℕ
reset id = 0x70 ∷ 0 ∷ id / 256 ∷ id % 256 ∷ []

-- an acknowledgement, with or without a payload behind it
abbrev pub reply_head : Bool → ℕ → ℕ → List ℕ
reply_head true code id = 0x60 ∷ code ∷ id / 256 ∷ id % 256 ∷ 0xC1 ∷ 0x2A ∷ 0xFF ∷ []
reply_head false code id = 0x60 ∷ code ∷ id / 256 ∷ id % 256 ∷ []

-- a POST (0.02) to a path of one letter
abbrev pub own_head : ℕ → ℕ → ℕ → List ℕ
own_head first id segment = first ∷ 2 ∷ id / 256 ∷ id % 256 ∷ 0xB1 ∷ segment ∷ 0x11 ∷ 0x2A ∷ 0xFF ∷ []

-- a registration: CON, to `r`
abbrev pub registration_head : ℕ → List ℕ
registration_head id = own_head 0x40 id 114

-- a report: NON, to `c`
abbrev pub report_head : ℕ → List ℕ
report_head id = own_head 0x50 id 99

-- an answer to a URL of its own, document 02, Q-1: NON, without a path
abbrev pub answer_head : ℕ → List ℕ
answer_head id = 0x50 ∷ 2 ∷ id / 256 ∷ id % 256 ∷ 0xC1 ∷ 0x2A ∷ 0xFF ∷ []
