-- Options, document 01, "Frame" (RFC 7252, section 3.1).
use Rattle.std.specs.Prelude.{ℕ, zero, suc, ◌+◌, ◌*◌, ◌-◌, ◌/◌, ◌%◌, List, [], ◌∷◌, length, get_or, take, drop, eqb, ltb, leb, None, Option, Some}
use Rattle.buffer.specs.Pick.{pick}
use Rattle.buffer.specs.Stretch.{fits, stretch}
use Rattle.coap.specs.declared.CoapOption.{CoapOption}
use Rattle.coap.specs.declared.Next.{Next}
use Rattle.coap.specs.declared.Next.TheVariants.{Option as AnOption, Payload}

-- a delta or a length: 13 is one byte more plus 13, 14 two bytes more plus 269, 15 is reserved
unfoldable pub extended : List ℕ → ℕ → ℕ → Option (ℕ × ℕ)
extended s nibble at =
    pick (ltb nibble 13) (Some (nibble, at))
    (pick (eqb nibble 13) (pick (fits (length s) at 1) (Some ((get_or s at 0 + 13), (at + 1))) None)
    (pick (eqb nibble 14) (pick (fits (length s) at 2) (Some ((get_or s at 0 * 256 + get_or s (at + 1) 0 + 269), (at + 2))) None)
    None))

-- the option of a number, where its value ends in the datagram
unfoldable pub of_stretch : ℕ → ℕ → Option ℕ → Option Next
of_stretch n start (Some end) = Some (AnOption (record { number = n; start = start; end = end }))
of_stretch n start None = None

-- the same, once its length is read
unfoldable pub of_length : List ℕ → ℕ → Option (ℕ × ℕ) → Option Next
of_length s n (Some (len, start)) = of_stretch n start (stretch (length s) start len)
of_length s n None = None

-- the same, once its delta is read: the largest option number is 65,535
unfoldable pub of_delta : List ℕ → ℕ → ℕ → Option (ℕ × ℕ) → Option Next
of_delta s b before (Some (delta, mid)) = pick (leb (before + delta) 65535) (of_length s (before + delta) (extended s (b % 16) mid)) None
of_delta s b before None = None

-- an option whose first byte is b, the others from `at` on
unfoldable pub option_from : List ℕ → ℕ → ℕ → ℕ → Option Next
option_from s b at before = of_delta s b before (extended s (b / 16) at)

-- what stands at a position, behind an option of the number `before`: the end, a marker with something after it, or an option
unfoldable pub option_at : List ℕ → ℕ → ℕ → Option Next
option_at s at before =
    pick (leb (length s) at) (Some (Payload at))
    (pick (eqb (get_or s at 0) 255) (pick (eqb (length s - at) 1) None (Some (Payload (at + 1))))
    (option_from s (get_or s at 0) (at + 1) before))

-- the options from a position on, and where the payload begins
pub record Options : Type 0 where
  pub items : List CoapOption
  pub ending : Option ℕ

abbrev pub onward : (ℕ → ℕ → Options) → Option Next → Options
onward rest (Some (AnOption o)) = record { items = o ∷ (rest o.end o.number).items; ending = (rest o.end o.number).ending }
onward rest (Some (Payload p)) = record { items = []; ending = Some p }
onward rest None = record { items = []; ending = None }

unfoldable pub options_for : ℕ → List ℕ → ℕ → ℕ → Options
options_for zero s at before = record { items = []; ending = None }
options_for (suc f) s at before = onward (options_for f s) (option_at s at before)

-- an option takes at least a byte, so there are no more than the datagram has bytes
unfoldable pub options : List ℕ → ℕ → ℕ → Options
options s at before = options_for (suc (length s)) s at before

unfoldable pub payload_from : List ℕ → ℕ → Option ℕ
payload_from s at = (options s at 0).ending

-- an option's value
abbrev pub value_of : List ℕ → CoapOption → List ℕ
value_of s o = take (o.end - o.start) (drop o.start s)
