-- Laws of options, one step each, and where an option and the payload lie.
use Rattle.std.specs.Prelude.{None, Option, Some}
use Prim.Native.Nat.{ℕ, zero, suc, ◌+◌, ◌*◌, ◌-◌, ◌/◌, ◌%◌, ◌≤◌, ◌<◌}
use mathlib.Core.Path.{◌≡◌, refl, ap, ◌∙◌}
use mathlib.Core.List.{List, [], ◌∷◌}
use mathlib.Core.Bool.{Bool, true, false}
use native.Mathlib.Omega.{arith}
use borrow.Author.Tests.{lt-ltb, le-leb, lt-leb, leb-true, leb-false, ne_eqb}
use lib.Dec.{eqb, ltb, leb}
use lib.ListN.{length, get_or}
use Rattle.buffer.specs.Pick.{pick}
use Rattle.buffer.specs.Stretch.{fits, stretch}
use Rattle.buffer.proofs.Stretches.{room}
use Rattle.coap.specs.Option.{extended, of_stretch, of_length, of_delta, option_from, option_at, Options, onward, options_for, options}
use Rattle.coap.specs.declared.CoapOption.{CoapOption}
use Rattle.coap.specs.declared.Next.{Next}
use Rattle.coap.specs.declared.Next.TheVariants.{Option as AnOption, Payload}

-- the second parts of equal pairs
second : {a b c d : ℕ} → ◌≡◌ {A = Option (ℕ × ℕ)} (Some (a, b)) (Some (c, d)) → b ≡ d
second {a} {b} {c} {d} e = let k : ◌≡◌ {A = ℕ × ℕ} (a, b) (c, d) = cc in ap (λ (w : ℕ × ℕ). w.1) k

-- a delta or a length, by its nibble
module _ (s : List ℕ) (nibble at : ℕ) where
  pub extended-plain : nibble < 13 → extended s nibble at ≡ Some (nibble, at)
  unfolding extended
  extended-plain h = rw (lt-ltb nibble 13 h)

  -- what follows it stands no earlier
  extended-after : (v next : ℕ) → extended s nibble at ≡ Some (v, next) → at ≤ next
  unfolding extended
  extended-after v next e = go (ltb nibble 13) (eqb nibble 13) (fits (length s) at 1) (eqb nibble 14) (fits (length s) at 2) e
    where
      go : (p q r t u : Bool)
          → pick {A = Option (ℕ × ℕ)} p (Some (nibble, at))
          (pick q (pick r (Some ((get_or s at 0 + 13), (at + 1))) None)
          (pick t (pick u (Some ((get_or s at 0 * 256 + get_or s (at + 1) 0 + 269), (at + 2))) None) None))
          ≡ Some (v, next)
          → at ≤ next
      go true q r t u h = let z : at ≡ next = second h in omega arith
      go false true true t u h = let z : at + 1 ≡ next = second h in omega arith
      go false true false t u h = let z : ◌≡◌ {A = ℕ} 0 1 = cc in absurd (omega arith)
      go false false r true true h = let z : at + 2 ≡ next = second h in omega arith
      go false false r true false h = let z : ◌≡◌ {A = ℕ} 0 1 = cc in absurd (omega arith)
      go false false r false u h = let z : ◌≡◌ {A = ℕ} 0 1 = cc in absurd (omega arith)

-- an option behind its first byte
module _ (s : List ℕ) (b at before delta mid : ℕ) (e : extended s (b / 16) at ≡ Some (delta, mid)) (h : before + delta ≤ 65535) where
  from-length : option_from s b at before ≡ of_length s (before + delta) (extended s (b % 16) mid)
  unfolding option_from of_delta
  from-length = rw (e, le-leb (before + delta) 65535 h)

  module _ (len start : ℕ) (f : extended s (b % 16) mid ≡ Some (len, start)) where
    from-stretch : option_from s b at before ≡ of_stretch (before + delta) start (stretch (length s) start len)
    unfolding of_length
    from-stretch = from-length ∙ ap (of_length s (before + delta)) f

    pub from-whole : (end : ℕ) → stretch (length s) start len ≡ Some end
        → option_from s b at before ≡ Some (AnOption (record { number = before + delta; start = start; end = end }))
    unfolding of_stretch
    from-whole end g = from-stretch ∙ ap (of_stretch (before + delta) start) g

-- what stands at a position
module _ (s : List ℕ) (at before : ℕ) where
  pub at-end : length s ≤ at → option_at s at before ≡ Some (Payload at)
  unfolding option_at
  at-end h = rw (le-leb (length s) at h)

  module _ (b : ℕ) (h : at < length s) (e : b ≡ get_or s at 0) where
    pub at-marker : b ≡ 255 → (length s - at ≡ 1 → ⊥) → option_at s at before ≡ Some (Payload (at + 1))
    unfolding option_at
    at-marker k l = rw (lt-leb (length s) at h, ← e, k, ne_eqb (length s - at) 1 l)

    pub at_option : (b ≡ 255 → ⊥) → option_at s at before ≡ option_from s b (at + 1) before
    unfolding option_at
    at_option k = rw (lt-leb (length s) at h, ← e, ne_eqb b 255 k)

-- an option behind its first byte lies in the datagram
from-inside : (s : List ℕ) (b at before : ℕ) (o : CoapOption) → option_from s b at before ≡ Some (AnOption o)
    → (at ≤ o.start) × (o.start ≤ o.end) × (o.end ≤ length s) × (o.number ≤ 65535)
unfolding option_from of_delta of_length of_stretch stretch
from-inside s b at before o e = delta (extended s (b / 16) at) refl e
  where
    whole : (n len start : ℕ) (t : Bool) → fits (length s) start len ≡ t → of_stretch n start (pick t (Some (start + len)) None) ≡ Some (AnOption o)
        → (n ≡ o.number) × (start ≡ o.start) × (o.start ≤ o.end) × (o.end ≤ length s)
    whole n len start true f q =
        let i : start ≡ o.start = cc in
        let j : start + len ≡ o.end = cc in
        let h = room (length s) start len refl f in
        (cc, i, omega arith, omega arith)
    whole n len start false f q = let z : ◌≡◌ {A = ℕ} 0 1 = cc in absurd (omega arith)

    sized : (n mid : ℕ) (x : Option (ℕ × ℕ)) → extended s (b % 16) mid ≡ x → of_length s n x ≡ Some (AnOption o)
        → (n ≡ o.number) × (mid ≤ o.start) × (o.start ≤ o.end) × (o.end ≤ length s)
    sized n mid (Some (len, start)) f q =
        let w = whole n len start (fits (length s) start len) refl q in
        let a = extended-after s (b % 16) mid len start f in
        (w.0, omega arith, w.2, w.3)
    sized n mid None f q = let z : ◌≡◌ {A = ℕ} 0 1 = cc in absurd (omega arith)

    small : (delta mid : ℕ) (t : Bool) → leb (before + delta) 65535 ≡ t → pick t (of_length s (before + delta) (extended s (b % 16) mid)) None ≡ Some (AnOption o)
        → (mid ≤ o.start) × (o.start ≤ o.end) × (o.end ≤ length s) × (o.number ≤ 65535)
    small delta mid true f q =
        let h = leb-true (before + delta) 65535 f in
        let w = sized (before + delta) mid (extended s (b % 16) mid) refl q in
        (w.1, w.2, w.3, omega arith)
    small delta mid false f q = let z : ◌≡◌ {A = ℕ} 0 1 = cc in absurd (omega arith)

    delta : (x : Option (ℕ × ℕ)) → extended s (b / 16) at ≡ x → of_delta s b before x ≡ Some (AnOption o)
        → (at ≤ o.start) × (o.start ≤ o.end) × (o.end ≤ length s) × (o.number ≤ 65535)
    delta (Some (d, mid)) f q =
        let w = small d mid (leb (before + d) 65535) refl q in
        let a = extended-after s (b / 16) at d mid f in
        (omega arith, w.1, w.2, w.3)
    delta None f q = let z : ◌≡◌ {A = ℕ} 0 1 = cc in absurd (omega arith)

-- an option lies in the datagram, after the position
pub option_inside : (s : List ℕ) (at before : ℕ) (o : CoapOption) → option_at s at before ≡ Some (AnOption o)
    → (at < o.start) × (o.start ≤ o.end) × (o.end ≤ length s) × (o.number ≤ 65535)
unfolding option_at
option_inside s at before o e = go (leb (length s) at) (eqb (get_or s at 0) 255) (eqb (length s - at) 1) e
  where
    go : (p q r : Bool)
        → pick p (Some (Payload at)) (pick q (pick r None (Some (Payload (at + 1)))) (option_from s (get_or s at 0) (at + 1) before)) ≡ Some (AnOption o)
        → (at < o.start) × (o.start ≤ o.end) × (o.end ≤ length s) × (o.number ≤ 65535)
    go true q r h = let z : ◌≡◌ {A = ℕ} 0 1 = cc in absurd (omega arith)
    go false true true h = let z : ◌≡◌ {A = ℕ} 0 1 = cc in absurd (omega arith)
    go false true false h = let z : ◌≡◌ {A = ℕ} 0 1 = cc in absurd (omega arith)
    go false false r h =
        let w = from-inside s (get_or s at 0) (at + 1) before o h in
        (omega arith, w.1, w.2, w.3)

-- an option's first byte begins no payload
from-no-payload : (s : List ℕ) (b at before p : ℕ) → option_from s b at before ≡ Some (Payload p) → ⊥
unfolding option_from of_delta of_length of_stretch
from-no-payload s b at before p e = delta (extended s (b / 16) at) e
  where
    whole : (n start : ℕ) (t : Option ℕ) → of_stretch n start t ≡ Some (Payload p) → ⊥
    whole n start (Some end) q = let z : ◌≡◌ {A = ℕ} 0 1 = cc in omega arith
    whole n start None q = let z : ◌≡◌ {A = ℕ} 0 1 = cc in omega arith

    sized : (n : ℕ) (x : Option (ℕ × ℕ)) → of_length s n x ≡ Some (Payload p) → ⊥
    sized n (Some (len, start)) q = whole n start (stretch (length s) start len) q
    sized n None q = let z : ◌≡◌ {A = ℕ} 0 1 = cc in omega arith

    small : (n mid : ℕ) (t : Bool) → pick t (of_length s n (extended s (b % 16) mid)) None ≡ Some (Payload p) → ⊥
    small n mid true q = sized n (extended s (b % 16) mid) q
    small n mid false q = let z : ◌≡◌ {A = ℕ} 0 1 = cc in omega arith

    delta : (x : Option (ℕ × ℕ)) → of_delta s b before x ≡ Some (Payload p) → ⊥
    delta (Some (d, mid)) q = small (before + d) mid (leb (before + d) 65535) q
    delta None q = let z : ◌≡◌ {A = ℕ} 0 1 = cc in omega arith

-- a payload begins at the position or behind it, and within the datagram if the position is
pub payload-inside : (s : List ℕ) (at before p : ℕ) → option_at s at before ≡ Some (Payload p) → (at ≤ p) × (at ≤ length s → p ≤ length s)
unfolding option_at
payload-inside s at before p e = go (leb (length s) at) (eqb (get_or s at 0) 255) (eqb (length s - at) 1) refl e
  where
    go : (t q r : Bool) → leb (length s) at ≡ t
        → pick t (Some (Payload at)) (pick q (pick r None (Some (Payload (at + 1)))) (option_from s (get_or s at 0) (at + 1) before)) ≡ Some (Payload p)
        → (at ≤ p) × (at ≤ length s → p ≤ length s)
    go true q r f h = let z : at ≡ p = cc in (omega arith, λ k. omega arith)
    go false true true f h = let z : ◌≡◌ {A = ℕ} 0 1 = cc in absurd (omega arith)
    go false true false f h =
        let z : at + 1 ≡ p = cc in
        let l = leb-false (length s) at f in
        (omega arith, λ k. omega arith)
    go false false r f h = absurd (from-no-payload s (get_or s at 0) (at + 1) before p h)

-- an option before the others
abbrev pub joined : CoapOption → Options → Options
joined o w = record { items = o ∷ w.items; ending = w.ending }

-- enough fuel is as good as more
fuel : (f g : ℕ) (s : List ℕ) (at before : ℕ) → length s ≤ f + at → length s ≤ g + at → options_for (suc f) s at before ≡ options_for (suc g) s at before
unfolding options_for
fuel zero g s at before h k = let z : length s ≤ at = omega arith in rw (at-end s at before z)
fuel (suc f) zero s at before h k = let z : length s ≤ at = omega arith in rw (at-end s at before z)
fuel (suc f) (suc g) s at before h k =
    go (option_at s at before)
    (λ o e. fuel f g s o.end o.number (let z = option_inside s at before o e in omega arith) (let z = option_inside s at before o e in omega arith))
  where
    go : (r : Option Next) → ((o : CoapOption) → r ≡ Some (AnOption o) → options_for (suc f) s o.end o.number ≡ options_for (suc g) s o.end o.number)
        → onward (options_for (suc f) s) r ≡ onward (options_for (suc g) s) r
    go (Some (AnOption o)) ih = ap (joined o) (ih o refl)
    go (Some (Payload p)) ih = refl
    go None ih = refl

-- the options from a position on
module _ (s : List ℕ) (at before : ℕ) where
  pub options-option : (o : CoapOption) → option_at s at before ≡ Some (AnOption o) → options s at before ≡ joined o (options s o.end o.number)
  unfolding options options_for
  options-option o e = rw e (go (length s) refl)
    where
      go : (n : ℕ) → length s ≡ n → joined o (options_for n s o.end o.number) ≡ joined o (options_for (suc n) s o.end o.number)
      go zero z = let i = option_inside s at before o e in absurd (omega arith)
      go (suc n) z = ap (joined o) (fuel n (suc n) s o.end o.number (let i = option_inside s at before o e in omega arith) (omega arith))

  pub options-payload : (p : ℕ) → option_at s at before ≡ Some (Payload p) → options s at before ≡ record { items = []; ending = Some p }
  unfolding options options_for
  options-payload p e = rw e

  pub options-malformed : option_at s at before ≡ None → options s at before ≡ record { items = []; ending = None }
  unfolding options options_for
  options-malformed e = rw e

-- what the goals of `payload_from` want
pub ruleset ending_steps = (option_inside, options-option, options-payload, options-malformed)
