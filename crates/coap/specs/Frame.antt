-- The frame, document 01, "Frame" (RFC 7252, section 3) and refusals 6 and 7.
use Rattle.std.specs.Prelude.{ℕ, ◌+◌, ◌*◌, ◌/◌, ◌%◌, List, length, get_or, eqb, ltb, None, Option, Some, Result, Ok, Err}
use Rattle.buffer.specs.Pick.{pick}
use Rattle.buffer.specs.Stretch.{stretch}
use Rattle.coap.specs.Option.{payload_from}
use Rattle.coap.specs.declared.Frame.{Frame}
use Rattle.coap.specs.declared.FrameError.{FrameError}
use Rattle.coap.specs.declared.FrameError.TheVariants.{Malformed, Foreign}

-- code 0.00 has no token and nothing after byte 4
unfoldable pub empty_of : ℕ → ℕ → ℕ → ℕ → Result Frame FrameError
empty_of n kind id token =
    pick (eqb n 4) (pick (eqb token 0) (Ok (record { kind = kind; code = 0; id = id; options = 4; payload = 4 })) (Err (Malformed kind id))) (Err (Malformed kind id))

unfoldable pub of_ending : ℕ → ℕ → ℕ → ℕ → Option ℕ → Result Frame FrameError
of_ending kind code id from (Some p) = Ok (record { kind = kind; code = code; id = id; options = from; payload = p })
of_ending kind code id from None = Err (Malformed kind id)

-- the token is passed over
unfoldable pub of_token : List ℕ → ℕ → ℕ → ℕ → Option ℕ → Result Frame FrameError
of_token s kind code id (Some from) = of_ending kind code id from (payload_from s from)
of_token s kind code id None = Err (Malformed kind id)

-- a token length of 9 to 15 is a format error
unfoldable pub body_of : List ℕ → ℕ → ℕ → ℕ → ℕ → Result Frame FrameError
body_of s kind code id token =
    pick (eqb code 0) (empty_of (length s) kind id token)
    (pick (ltb 8 token) (Err (Malformed kind id)) (of_token s kind code id (stretch (length s) 4 token)))

-- a datagram: version, type and token length in the first byte, then code and message id
unfoldable pub frame_of : List ℕ → Result Frame FrameError
frame_of s =
    pick (ltb (length s) 4) (Err Foreign)
    (pick (eqb (get_or s 0 0 / 64) 1)
    (body_of s (get_or s 0 0 / 16 % 4) (get_or s 1 0) (get_or s 2 0 * 256 + get_or s 3 0) (get_or s 0 0 % 16))
    (Err Foreign))
