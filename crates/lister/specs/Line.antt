-- The lines of the listing, document 01, "Capture and its listing".
use Rattle.std.specs.Prelude.{ℕ, ◌+◌, ◌/◌, ◌%◌, ◌≡◌, List, [], ◌∷◌, ◌++◌, false, ltb, length, replicate}
use Rattle.calls.specs.Datagram.{Call, Effect}
use Rattle.buffer.specs.Pick.{pick}
use Rattle.buffer.specs.Put.{Appended}
use Rattle.decimal.specs.Decimal.{decimal}
use Rattle.schedule.specs.declared.Point.{Point}
use Rattle.state.specs.Setup.{setup_of}
use Rattle.state.specs.declared.setup.Setup.{Setup}
use Rattle.lister.specs.declared.Line.{Line}

-- hwId `A1`, no vendorHwId, a running hash of 32 zero bytes, URL `coap://n`, an image of 4,096 bytes, default intervals, message id 0,
-- signatures not required
unfoldable pub listed_device : Setup
listed_device =
    setup_of (65 ∷ 49 ∷ []) [] (replicate 32 0) (99 ∷ 111 ∷ 97 ∷ 112 ∷ 58 ∷ 47 ∷ 47 ∷ 110 ∷ [])
    (record {
      image_len = 4096;
      interval_min = record { 0 = 300 };
      interval_max = record { 0 = 3600 };
      message_id = 0;
      signed_posts = false;
      signed_responses = false;
    })

-- empty store; the random number is 0
unfoldable pub call_of : List ℕ → List ℕ → Point → ℕ → Call
call_of answers bytes time verdict =
    record { out = replicate 1280 0; bytes = bytes; store = []; time = time; verdict = verdict; random = 0; answers = answers }

-- lower-case hex
unfoldable pub hex_digit : ℕ → ℕ
hex_digit n = pick (ltb n 10) (48 + n) (87 + n)

unfoldable pub hex_byte : ℕ → List ℕ
hex_byte b = hex_digit (b / 16) ∷ hex_digit (b % 16) ∷ []

unfoldable pub hex_of : List ℕ → List ℕ
hex_of [] = []
hex_of (b ∷ bs) = hex_byte b ++ hex_of bs

-- or `-`
unfoldable pub shown : List ℕ → List ℕ
shown [] = 45 ∷ []
shown (b ∷ bs) = hex_of (b ∷ bs)

-- a number and a blank
unfoldable pub field : ℕ → List ℕ
field n = decimal n ++ (32 ∷ [])

-- fields are number, outcome, reply length, reply
unfoldable pub line_of : ℕ → ℕ → List ℕ → List ℕ
line_of n outcome reply = field n ++ (field outcome ++ (field (length reply) ++ (shown reply ++ (10 ∷ []))))

-- `n outcome len reply`
unfoldable pub header : List ℕ
header = 110 ∷ 32 ∷ 111 ∷ 117 ∷ 116 ∷ 99 ∷ 111 ∷ 109 ∷ 101 ∷ 32 ∷ 108 ∷ 101 ∷ 110 ∷ 32 ∷ 114 ∷ 101 ∷ 112 ∷ 108 ∷ 121 ∷ 10 ∷ []

-- a malformed file gives only the header and `- 12 0 -`
unfoldable pub refusal_line : ℕ → List ℕ
refusal_line outcome = (45 ∷ 32 ∷ []) ++ (field outcome ++ (field 0 ++ (45 ∷ 10 ∷ [])))

-- what listing an entry leaves: its line, the state and the two buffers after the call
pub record Listed (n : ℕ) (e : Effect) (out : List ℕ) (r : Line) (lent flash left : List ℕ) : Type 0 where
  pub line : Appended out 0 (line_of n e.outcome e.reply) left r.len
  pub state : r.state ≡ e.state
  pub answers : lent ≡ e.answers
  pub image : flash ≡ e.image
