-- What is proved of frames, beyond the functions' contracts.
use Rattle.std.specs.Prelude.{ℕ, ◌<◌, ◌≡◌, List, [], ◌∷◌, ◌++◌, map, true, false, drop, None, Option, Some, Result, Ok, Err}
use Rattle.coap.specs.Option.{options, value_of}
use Rattle.coap.specs.Frame.{frame_of}
use Rattle.coap.specs.Write.{reset, reply_head, registration_head, report_head, answer_head}
use Rattle.coap.specs.declared.CoapOption.{CoapOption}
use Rattle.coap.specs.declared.Frame.{Frame}
use Rattle.coap.specs.declared.FrameError.{FrameError}

-- a message by what it says, wherever its parts stand
pub record Held : Type 0 where
  pub number : ℕ
  pub value : List ℕ

pub record Message : Type 0 where
  pub kind : ℕ
  pub code : ℕ
  pub id : ℕ
  pub options : List Held
  pub payload : List ℕ

abbrev pub held : List ℕ → CoapOption → Held
held s o = record { number = o.number; value = value_of s o }

unfoldable pub of_frame : List ℕ → Frame → Message
of_frame s f =
    record {
      kind = f.kind;
      code = f.code;
      id = f.id;
      options = map (held s) (options s f.options 0).items;
      payload = drop f.payload s;
    }

abbrev pub of_datagram : List ℕ → Result Frame FrameError → Option Message
of_datagram s (Ok f) = Some (of_frame s f)
of_datagram s (Err e) = None

-- the message that a datagram's bytes say, if they are well formed
unfoldable pub message_of : List ℕ → Option Message
message_of s = of_datagram s (frame_of s)

-- option 12 (Content-Format) = 42, and option 11 (Uri-Path) of one letter
abbrev pub format : Held
format = record { number = 12; value = 42 ∷ [] }

abbrev pub to_path : ℕ → Held
to_path letter = record { number = 11; value = letter ∷ [] }

-- what the agent writes reads back as what was meant
pub record RoundTrip : Type 0 where
  pub resets : (id : ℕ) → id < 65536 → message_of (reset id) ≡ Some (record { kind = 3; code = 0; id = id; options = []; payload = [] })
  pub bare : (code id : ℕ) → 0 < code → code < 256 → id < 65536
      → message_of (reply_head false code id) ≡ Some (record { kind = 2; code = code; id = id; options = []; payload = [] })
  pub filled : (code id b : ℕ) (rest : List ℕ) → 0 < code → code < 256 → id < 65536
      → message_of (reply_head true code id ++ (b ∷ rest)) ≡ Some (record { kind = 2; code = code; id = id; options = format ∷ []; payload = b ∷ rest })
  pub registration : (id b : ℕ) (rest : List ℕ) → id < 65536
      → message_of (registration_head id ++ (b ∷ rest)) ≡ Some (record { kind = 0; code = 2; id = id; options = to_path 114 ∷ format ∷ []; payload = b ∷ rest })
  pub report : (id b : ℕ) (rest : List ℕ) → id < 65536
      → message_of (report_head id ++ (b ∷ rest)) ≡ Some (record { kind = 1; code = 2; id = id; options = to_path 99 ∷ format ∷ []; payload = b ∷ rest })
  pub answer : (id b : ℕ) (rest : List ℕ) → id < 65536
      → message_of (answer_head id ++ (b ∷ rest)) ≡ Some (record { kind = 1; code = 2; id = id; options = format ∷ []; payload = b ∷ rest })
