-- Laws of the listing's lines: their pieces one behind the other.
use Prim.Native.Nat.{ℕ, suc, ◌+◌, ◌/◌, ◌%◌, ◌≤◌, ◌<◌}
use mathlib.Core.Path.{◌≡◌, refl, sym, ap, ◌∙◌}
use mathlib.Core.List.{List, [], ◌∷◌, ◌++◌, append-nil, append_assoc}
use native.Mathlib.Omega.{arith}
use borrow.Author.Tests.{lt-ltb, le-ltb}
use lib.ListN.{length, take, drop, get_or, length-take}
use lib.Seq.{sets-eq, take-suc, take_all, take-append_seam}
use Rattle.dispatch.specs.Left.{Left}
use Rattle.calls.specs.Datagram.{Effect}
use Rattle.reply.specs.declared.DatagramAnswer.{DatagramAnswer}
use Rattle.buffer.specs.Put.{Put, Appended}
use Rattle.buffer.proofs.Puts.{appended-put, appended-none, appended-join}
use Rattle.decimal.specs.Decimal.{decimal}
use Rattle.lister.specs.Line.{hex_digit, hex_byte, hex_of, shown, field, line_of, refusal_line, Listed}

pub digit_low : (n : ℕ) → n < 10 → 48 + n ≡ hex_digit n
unfolding hex_digit
digit_low n h = rw (lt-ltb n 10 h)

pub digit-high : (n : ℕ) → 10 ≤ n → 87 + n ≡ hex_digit n
unfolding hex_digit
digit-high n h = rw (le-ltb n 10 h)

module _ {out : List ℕ} {at : ℕ} where
  pub byte_put : (b : ℕ) {x y : ℕ} {left : List ℕ} {n : ℕ} → x ≡ hex_digit (b / 16) → y ≡ hex_digit (b % 16) → Put out at (x ∷ y ∷ []) left n
      → Put out at (hex_byte b) left n
  unfolding hex_byte
  byte_put b e k p = rw (← e, ← k) p

  pub field-join : (n : ℕ) {mid : List ℕ} {m : ℕ} {left : List ℕ} {end : ℕ} → Put out at (decimal n) mid m → Put mid m (32 ∷ []) left end
      → Appended out at (field n) left end
  unfolding field
  field-join n p q = appended-join (decimal n) (32 ∷ []) (appended-put p) (appended-put q)

-- the bytes up to a place
unfoldable pub hex_to : List ℕ → ℕ → List ℕ
hex_to s i = hex_of (take i s)

hex-append : (a b : List ℕ) → hex_of (a ++ b) ≡ hex_of a ++ hex_of b
unfolding hex_of
hex-append [] b = refl
hex-append (x ∷ a) b = ap (λ (l : List ℕ). hex_byte x ++ l) (hex-append a b) ∙ sym (append_assoc (hex_byte x) (hex_of a) (hex_of b))

pub hex-start : (s out : List ℕ) (at : ℕ) → at ≤ length out + 1 → Appended out at (hex_to s 0) out at
unfolding hex_to hex_of
hex-start s out at h = appended-none out at h

hex-more : (s : List ℕ) (i : ℕ) → i < length s → hex_to s (i + 1) ≡ hex_to s i ++ hex_byte (get_or s i 0)
unfolding hex_to hex_of
hex-more s i h =
    let e : i + 1 ≡ suc i = omega arith in
    rw (e, take-suc s i 0 h) (hex-append (take i s) (get_or s i 0 ∷ []) ∙ rw (append-nil (hex_byte (get_or s i 0))))

pub hex-next : {out : List ℕ} {at : ℕ} (s : List ℕ) (i : ℕ) {mid : List ℕ} {m : ℕ} {left : List ℕ} {end : ℕ} → i < length s → Appended out at (hex_to s i) mid m
    → Put mid m (hex_byte (get_or s i 0)) left end → Appended out at (hex_to s (i + 1)) left end
hex-next s i h a p = rw (hex-more s i h) (appended-join (hex_to s i) (hex_byte (get_or s i 0)) a (appended-put p))

pub hex-end : {out : List ℕ} {at : ℕ} (s : List ℕ) (i : ℕ) {left : List ℕ} {end : ℕ} → length s ≤ i → Appended out at (hex_to s i) left end → Appended out at (hex_of s) left end
unfolding hex_to
hex-end s i h a = rw (take_all i s h) at a

-- a reply, or a dash
module _ {out : List ℕ} {at : ℕ} {left : List ℕ} {end : ℕ} where
  pub reply-none : (s : List ℕ) → length s ≡ 0 → Put out at (45 ∷ []) left end → Appended out at (shown s) left end
  unfolding shown
  reply-none [] h p = appended-put p
  reply-none (b ∷ s) h p = absurd (omega arith)

  pub reply-some : (s : List ℕ) → (length s ≡ 0 → ⊥) → Appended out at (hex_of s) left end → Appended out at (shown s) left end
  unfolding shown
  reply-some [] h p = absurd (h refl)
  reply-some (b ∷ s) h p = p

pub line-join : (n outcome : ℕ) (reply : List ℕ) {out v w x y left : List ℕ} {a b c d end len : ℕ} → Appended out 0 (field n) v a → Appended v a (field outcome) w b
    → len ≡ length reply → Appended w b (field len) x c → Appended x c (shown reply) y d → Put y d (10 ∷ []) left end
    → Appended out 0 (line_of n outcome reply) left end
unfolding line_of
line-join n outcome reply p q e r t u =
    appended-join (field n) (field outcome ++ (field (length reply) ++ (shown reply ++ (10 ∷ [])))) p
    (appended-join (field outcome) (field (length reply) ++ (shown reply ++ (10 ∷ []))) q
    (appended-join (field (length reply)) (shown reply ++ (10 ∷ [])) (rw e at r) (appended-join (shown reply) (10 ∷ []) t (appended-put u))))

pub refusal-join : (outcome : ℕ) {out w x y left : List ℕ} {a b c end : ℕ} → Put out 0 (45 ∷ 32 ∷ []) w a → Appended w a (field outcome) x b
    → Appended x b (field 0) y c → Put y c (45 ∷ 10 ∷ []) left end → Appended out 0 (refusal_line outcome) left end
unfolding refusal_line
refusal-join outcome p q r t =
    appended-join (45 ∷ 32 ∷ []) (field outcome ++ (field 0 ++ (45 ∷ 10 ∷ []))) (appended-put p)
    (appended-join (field outcome) (field 0 ++ (45 ∷ 10 ∷ [])) q (appended-join (field 0) (45 ∷ 10 ∷ []) r (appended-put t)))

-- what the call leaves at the front of its output is its reply
module _ (e : Effect) {zeros buf lent flash : List ℕ} {a : DatagramAnswer} (l : Left e zeros a lent flash buf) (z : length zeros ≡ 1280) where
  pub reply-short : length (take a.len buf) ≤ 1280
  reply-short =
      let k = l.answer.small in
      omega (arith, length-take a.len buf)

  reply-front : take a.len buf ≡ e.reply
  reply-front =
      let k = l.answer.small in
      let q = l.answer.len in
      rw (q, l.answer.bytes, sets-eq e.reply zeros 0 (omega arith), take-append_seam e.reply (drop (0 + length e.reply) zeros))

  pub listed : (n : ℕ) {f out left : List ℕ} {m : ℕ} → f ≡ take a.len buf → Appended out 0 (line_of n a.outcome f) left m
      → Listed n e out (record { len = m; state = a.state }) lent flash left
  listed n {f} {out} {left} {m} k p =
      record {
        line = rw (k, reply-front, l.answer.outcome) at p;
        state = l.answer.state;
        answers = l.answers;
        image = l.image;
      }
