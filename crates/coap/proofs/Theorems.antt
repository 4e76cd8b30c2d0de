-- What `specs/Statements.antt` states of frames: the laws, applied at the bytes that are written.
use Rattle.std.specs.Prelude.{Some}
use Prim.Native.Nat.{ℕ, ◌+◌, ◌*◌, ◌/◌, ◌%◌, ◌≤◌, ◌<◌}
use mathlib.Core.Path.{◌≡◌, refl, ap, ap₂, ◌∙◌}
use mathlib.Core.List.{List, [], ◌∷◌, ◌++◌, map}
use native.Mathlib.Omega.{arith}
use lib.ListN.{length, get_or, drop}
use Rattle.buffer.specs.Stretch.{stretch}
use Rattle.buffer.proofs.Stretches.{fits-true, stretch-to}
use Rattle.coap.specs.Option.{Options, options, payload_from}
use Rattle.coap.specs.Frame.{empty_of, body_of, frame_of}
use Rattle.coap.specs.Write.{reset, own_head}
use Rattle.coap.specs.Statements.{Message, held, of_frame, of_datagram, message_of, format, to_path, RoundTrip}
use Rattle.coap.specs.declared.CoapOption.{CoapOption}
use Rattle.coap.proofs.Laws.{extended-plain, from-whole, at-end, at-marker, at_option, joined, options-option, options-payload}
use Rattle.coap.proofs.Frames.{body-whole, frame-body}

-- options from a position on: one with its delta and its length in its first byte, a payload behind its marker, and the end
module _ (s : List ℕ) (at before : ℕ) where
  short : (b : ℕ) {w : Options} → b ≡ get_or s at 0 → b / 16 < 13 → b % 16 < 13 → before + b / 16 ≤ 65535 → at + 1 + b % 16 ≤ length s
      → options s (at + 1 + b % 16) (before + b / 16) ≡ w
      → options s at before ≡ joined (record { number = before + b / 16; start = at + 1; end = at + 1 + b % 16 }) w
  short b e h k n l o =
      let delta = extended-plain s (b / 16) (at + 1) h in
      let len = extended-plain s (b % 16) (at + 1) k in
      let value = stretch-to (length s) (at + 1) (b % 16) (fits-true (length s) (at + 1) (b % 16) l) in
      options-option s at before _ (at_option s at before b (omega arith) e (λ z. omega arith) ∙ from-whole s b (at + 1) before _ _ delta n _ _ len _ value)
      ∙ ap (joined _) o

  marked : 255 ≡ get_or s at 0 → at + 1 < length s → options s at before ≡ record { items = []; ending = Some (at + 1) }
  marked e h = options-payload s at before (at + 1) (at-marker s at before 255 (omega arith) e refl (λ z. omega arith))

  ended : length s ≤ at → options s at before ≡ record { items = []; ending = Some at }
  ended h = options-payload s at before at (at-end s at before h)

-- a datagram by its header, which says that there is no token
abbrev headed : ℕ → ℕ → ℕ → List ℕ → List ℕ
headed first code id rest = first ∷ code ∷ id / 256 ∷ id % 256 ∷ rest

-- what a datagram says, by its options and where its payload begins
abbrev said : List ℕ → ℕ → ℕ → ℕ → List CoapOption → ℕ → Message
said s kind code id items p = record { kind = kind; code = code; id = id; options = map (held s) items; payload = drop p s }

whole : (first code id p : ℕ) (rest : List ℕ) (items : List CoapOption) → first / 64 ≡ 1 → first % 16 ≡ 0 → 0 < code
    → options (headed first code id rest) 4 0 ≡ record { items = items; ending = Some p }
    → message_of (headed first code id rest) ≡ Some (said (headed first code id rest) (first / 16 % 4) code id items p)
unfolding message_of of_frame payload_from
whole first code id p rest items e t h o =
    let s = headed first code id rest in
    let kind = first / 16 % 4 in
    let back : id / 256 * 256 + id % 256 ≡ id = omega arith in
    let header = frame-body s first (omega arith) refl (id / 256) (id % 256) e refl refl in
    let token = ap (stretch (length s) 4) t ∙ stretch-to (length s) 4 0 (fits-true (length s) 4 0 (omega arith)) in
    let body = body-whole s kind code (id / 256 * 256 + id % 256) (first % 16) (λ z. omega arith) (omega arith) 4 token p (ap (λ (w : Options). w.ending) o) in
    ap (of_datagram s) (header ∙ body) ∙ ap₂ (λ (i : ℕ) (w : Options). Some (said s kind code i w.items p)) back o

emptied : (id : ℕ) → message_of (reset id) ≡ Some (record { kind = 3; code = 0; id = id; options = []; payload = [] })
unfolding message_of of_frame frame_of body_of empty_of
emptied id =
    let back : id / 256 * 256 + id % 256 ≡ id = omega arith in
    ap₂ (λ (i : ℕ) (w : Options). Some (said (reset id) 3 0 i w.items 4)) back (ended (reset id) 4 0 (omega arith))

own : (first id letter b : ℕ) (rest : List ℕ) → first / 64 ≡ 1 → first % 16 ≡ 0
    → message_of (own_head first id letter ++ (b ∷ rest))
    ≡ Some (record { kind = first / 16 % 4; code = 2; id = id; options = to_path letter ∷ format ∷ []; payload = b ∷ rest })
own first id letter b rest e t =
    let s = own_head first id letter ++ (b ∷ rest) in
    whole first 2 id 9 (drop 4 s) _ e t (omega arith)
    (short s 4 0 0xB1 refl (omega arith) (omega arith) (omega arith) (omega arith)
    (short s 6 11 0x11 refl (omega arith) (omega arith) (omega arith) (omega arith)
    (marked s 8 12 refl (omega arith))))

formatted : (first code id b : ℕ) (rest : List ℕ) → first / 64 ≡ 1 → first % 16 ≡ 0 → 0 < code
    → message_of (headed first code id (0xC1 ∷ 0x2A ∷ 0xFF ∷ b ∷ rest))
    ≡ Some (record { kind = first / 16 % 4; code = code; id = id; options = format ∷ []; payload = b ∷ rest })
formatted first code id b rest e t h =
    let s = headed first code id (0xC1 ∷ 0x2A ∷ 0xFF ∷ b ∷ rest) in
    whole first code id 7 (drop 4 s) _ e t h
    (short s 4 0 0xC1 refl (omega arith) (omega arith) (omega arith) (omega arith)
    (marked s 6 12 refl (omega arith)))

pub round_trip : RoundTrip
round_trip =
    record {
      resets = λ id h. emptied id;
      bare = λ code id h k l. whole 0x60 code id 4 [] [] refl refl h (ended (headed 0x60 code id []) 4 0 (omega arith));
      filled = λ code id b rest h k l. formatted 0x60 code id b rest refl refl h;
      registration = λ id b rest h. own 0x40 id 114 b rest refl refl;
      report = λ id b rest h. own 0x50 id 99 b rest refl refl;
      answer = λ id b rest h. formatted 0x50 2 id b rest refl refl (omega arith);
    }
