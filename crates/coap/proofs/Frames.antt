-- Laws of the frame, one step each, and where its parts lie.
use Rattle.std.specs.Prelude.{None, Option, Some, Ok, Err}
use Prim.Native.Nat.{ℕ, zero, suc, ◌+◌, ◌*◌, ◌/◌, ◌%◌, ◌≤◌}
use mathlib.Core.Path.{◌≡◌, refl, ap, ◌∙◌}
use mathlib.Core.List.{List}
use mathlib.Core.Bool.{Bool, true, false}
use native.Mathlib.Omega.{arith}
use borrow.Author.Tests.{le-ltb, eq-eqb, ne_eqb, eqb-true}
use lib.Dec.{eqb, ltb}
use lib.ListN.{length, get_or}
use Rattle.buffer.specs.Pick.{pick}
use Rattle.buffer.specs.Stretch.{fits, stretch}
use Rattle.buffer.proofs.Stretches.{room}
use Rattle.coap.specs.Option.{option_at, onward, options_for, options, payload_from}
use Rattle.coap.specs.Frame.{empty_of, of_ending, of_token, body_of, frame_of}
use Rattle.coap.specs.declared.Next.{Next}
use Rattle.coap.specs.declared.Next.TheVariants.{Option as AnOption, Payload}
use Rattle.coap.specs.declared.Frame.{Frame}
use Rattle.coap.specs.declared.FrameError.TheVariants.{Malformed, Foreign}
use Rattle.coap.proofs.Laws.{option_inside, payload-inside}

-- the body, by its code, its token and its options
module _ (s : List ℕ) (kind code id token : ℕ) (h : code ≡ 0 → ⊥) (k : token ≤ 8) where
  body-token : body_of s kind code id token ≡ of_token s kind code id (stretch (length s) 4 token)
  unfolding body_of
  body-token = rw (ne_eqb code 0 h, le-ltb 8 token k)

  module _ (from : ℕ) (e : stretch (length s) 4 token ≡ Some from) where
    body-ending : body_of s kind code id token ≡ of_ending kind code id from (payload_from s from)
    unfolding of_token
    body-ending = body-token ∙ ap (of_token s kind code id) e

    pub body-whole : (p : ℕ) → payload_from s from ≡ Some p
        → body_of s kind code id token ≡ Ok (record { kind = kind; code = code; id = id; options = from; payload = p })
    unfolding of_ending
    body-whole p f = body-ending ∙ ap (of_ending kind code id from) f

-- the header
pub frame-body : (s : List ℕ) (b : ℕ) (h : 4 ≤ length s) (e : b ≡ get_or s 0 0) (x y : ℕ) → b / 64 ≡ 1 → x ≡ get_or s 2 0 → y ≡ get_or s 3 0
    → frame_of s ≡ body_of s (b / 16 % 4) (get_or s 1 0) (x * 256 + y) (b % 16)
unfolding frame_of
frame-body s b h e x y k p q = rw (le-ltb (length s) 4 h, ← e, eq-eqb (b / 64) 1 k, p, q)

-- the payload behind options begins where they do or behind that, and within the datagram if they do
ending-inside : (f : ℕ) (s : List ℕ) (at before p : ℕ) → (options_for f s at before).ending ≡ Some p → (at ≤ p) × (at ≤ length s → p ≤ length s)
unfolding options_for
ending-inside zero s at before p e = let z : ◌≡◌ {A = ℕ} 0 1 = cc in absurd (omega arith)
ending-inside (suc f) s at before p e = go (option_at s at before) refl (λ at before h. ending-inside f s at before p h) e
  where
    go : (r : Option Next) → option_at s at before ≡ r
        → ((at before : ℕ) → (options_for f s at before).ending ≡ Some p → (at ≤ p) × (at ≤ length s → p ≤ length s))
        → (onward (options_for f s) r).ending ≡ Some p → (at ≤ p) × (at ≤ length s → p ≤ length s)
    go (Some (AnOption o)) q ih h =
        let i = option_inside s at before o q in
        let j = ih o.end o.number h in
        (omega arith, λ k. j.1 i.2)
    go (Some (Payload x)) q ih h = let z : x ≡ p = cc in let i = payload-inside s at before x q in (omega arith, λ k. let j = i.1 k in omega arith)
    go None q ih h = let z : ◌≡◌ {A = ℕ} 0 1 = cc in absurd (omega arith)

-- options and payload lie in the datagram, behind the header
pub record Inside (s : List ℕ) (f : Frame) : Type 0 where
  pub header : 4 ≤ f.options
  pub ordered : f.options ≤ f.payload
  pub ends : f.payload ≤ length s

body-inside : (s : List ℕ) (kind code id token : ℕ) (f : Frame) → body_of s kind code id token ≡ Ok f → Inside s f
unfolding body_of empty_of of_token of_ending stretch payload_from options
body-inside s kind code id token f e = body (eqb code 0) (ltb 8 token) e
  where
    empty : (t u : Bool) → eqb (length s) 4 ≡ t
        → pick t (pick u (Ok (record { kind = kind; code = 0; id = id; options = 4; payload = 4 })) (Err (Malformed kind id))) (Err (Malformed kind id)) ≡ Ok f → Inside s f
    empty true true g h =
        let i : 4 ≡ f.options = cc in
        let j : 4 ≡ f.payload = cc in
        let l = eqb-true (length s) 4 g in
        record { header = omega arith; ordered = omega arith; ends = omega arith }
    empty true false g h = let z : ◌≡◌ {A = ℕ} 0 1 = cc in absurd (omega arith)
    empty false u g h = let z : ◌≡◌ {A = ℕ} 0 1 = cc in absurd (omega arith)

    ending : (from : ℕ) (r : Option ℕ) → 4 ≤ from → from ≤ length s → payload_from s from ≡ r → of_ending kind code id from r ≡ Ok f → Inside s f
    ending from (Some p) k l q h =
        let i : from ≡ f.options = cc in
        let j : p ≡ f.payload = cc in
        let w = ending-inside (suc (length s)) s from 0 p q in
        let v = w.1 l in
        record { header = omega arith; ordered = omega arith; ends = omega arith }
    ending from None k l q h = let z : ◌≡◌ {A = ℕ} 0 1 = cc in absurd (omega arith)

    past : (t : Bool) → fits (length s) 4 token ≡ t → of_token s kind code id (pick t (Some (4 + token)) None) ≡ Ok f → Inside s f
    past true g h = ending (4 + token) (payload_from s (4 + token)) (omega arith) (room (length s) 4 token refl g) refl h
    past false g h = let z : ◌≡◌ {A = ℕ} 0 1 = cc in absurd (omega arith)

    body : (t u : Bool)
        → pick t (empty_of (length s) kind id token) (pick u (Err (Malformed kind id)) (of_token s kind code id (stretch (length s) 4 token))) ≡ Ok f → Inside s f
    body true u h = empty (eqb (length s) 4) (eqb token 0) refl h
    body false true h = let z : ◌≡◌ {A = ℕ} 0 1 = cc in absurd (omega arith)
    body false false h = past (fits (length s) 4 token) refl h

pub frame-inside : (s : List ℕ) (f : Frame) → frame_of s ≡ Ok f → Inside s f
unfolding frame_of
frame-inside s f e = go (ltb (length s) 4) (eqb (get_or s 0 0 / 64) 1) e
  where
    go : (t u : Bool)
        → pick t (Err Foreign) (pick u (body_of s (get_or s 0 0 / 16 % 4) (get_or s 1 0) (get_or s 2 0 * 256 + get_or s 3 0) (get_or s 0 0 % 16)) (Err Foreign)) ≡ Ok f → Inside s f
    go true u h = let z : ◌≡◌ {A = ℕ} 0 1 = cc in absurd (omega arith)
    go false true h = body-inside s _ _ _ _ f h
    go false false h = let z : ◌≡◌ {A = ℕ} 0 1 = cc in absurd (omega arith)
