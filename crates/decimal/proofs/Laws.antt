-- Laws of decimal spellings, one step each.
use Rattle.std.specs.Prelude.{None, Option, Some, nat_eq, slice_get}
use Rattle.std.proofs.Common.{inl, inr}
use Prim.Native.Nat.{ℕ, zero, suc, ◌+◌, ◌*◌, ◌-◌, ◌/◌, ◌%◌, ◌^◌, ◌≤◌, ◌<◌}
use mathlib.Core.Path.{◌≡◌, refl, ap, ◌∙◌}
use mathlib.Core.List.{List, [], ◌∷◌}
use mathlib.Core.Bool.{Bool, true, false}
use native.Mathlib.Numerals.{add-one}
use native.Mathlib.Omega.{arith}
use borrow.Author.Tests.{lt-ltb, le-ltb, eq-eqb, ne_eqb, le-leb, lt-leb}
use lib.Dec.{ltb}
use lib.ListN.{length, get_or, drop, drop_of_length-le, set}
use lib.Seq.{drop-cons, sets, set_comm}
use Rattle.std.specs.Bool.{then_some}
use Rattle.std.specs.Char.{IsAsciiDigit, IsNotAsciiDigit}
use Rattle.buffer.specs.Pick.{pick}
use Rattle.decimal.specs.Decimal.{all_digits, spelt, digits_of, zero_or, id_of, digits_before}
use Rattle.decimal.specs.Ids.{pushed}
use Rattle.decimal.specs.declared.Ids.{Ids}

-- what digits worth v and the text behind them say
unfoldable pub behind : ℕ → List ℕ → Option ℕ
behind v s = pick (all_digits s) (pick (ltb (spelt v s) (2 ^ 32)) (Some (spelt v s)) None) None

pub behind-start : (s : List ℕ) → digits_of s ≡ behind 0 (drop 0 s)
unfolding behind digits_of
behind-start s = refl

pub behind-end : (s : List ℕ) (i v : ℕ) → length s ≤ i → v < 2 ^ 32 → behind v (drop i s) ≡ Some v
unfolding behind all_digits spelt
behind-end s i v h l = rw (drop_of_length-le s {i = i} h, lt-ltb v (2 ^ 32) l)

-- a number only grows with its digits
grows : (s : List ℕ) (v : ℕ) → v ≤ spelt v s
unfolding spelt
grows [] v = omega arith
grows (b ∷ s) v = let h = grows s (v * 10 + (b - 48)) in omega arith

module _ (s : List ℕ) (i v : ℕ) (h : i < length s) where
  from : drop i s ≡ get_or s i 0 ∷ drop (i + 1) s
  from = rw (add-one, drop-cons s i 0 h)

  pub behind-other : IsNotAsciiDigit (get_or s i 0) → behind v (drop i s) ≡ None
  unfolding behind all_digits spelt
  behind-other (inl k) = rw (from, lt-ltb (get_or s i 0) 48 k)
  behind-other (inr k) = rw (from, le-ltb (get_or s i 0) 48 (omega arith), lt-ltb 57 (get_or s i 0) k)

  pub behind-digit : IsAsciiDigit (get_or s i 0) → behind v (drop i s) ≡ behind (v * 10 + (get_or s i 0 - 48)) (drop (i + 1) s)
  unfolding behind all_digits spelt
  behind-digit k = rw (from, le-ltb (get_or s i 0) 48 k.0, le-ltb 57 (get_or s i 0) k.1)

-- a number of 2^32 or more stays one
pub behind-large : (v : ℕ) (s : List ℕ) → 2 ^ 32 ≤ v → behind v s ≡ None
unfolding behind
behind-large v s h = rw (le-ltb (spelt v s) (2 ^ 32) (let g = grows s v in omega arith)) (go (all_digits s))
  where
    go : (t : Bool) → pick {A = Option ℕ} t None None ≡ None
    go true = refl
    go false = refl

-- one more than the largest number with k digits after its first
abbrev pub bound : ℕ → ℕ
bound zero = 10
bound (suc k) = 10 * bound k

-- the digits of a number, from the last to the first
pub digits-end : (k v : ℕ) (known : List ℕ) → v < 10 → digits_before k v known ≡ (48 + v) ∷ known
unfolding digits_before
digits-end zero v known h = refl
digits-end (suc k) v known h = rw (lt-ltb v 10 h)

pub digits_more : (k v : ℕ) (known : List ℕ) → 10 ≤ v → v < bound k
    → (j : ℕ) × (k ≡ j + 1) × (v / 10 < bound j) × (digits_before k v known ≡ digits_before j (v / 10) ((48 + v % 10) ∷ known))
unfolding digits_before
digits_more zero v known h g = absurd (omega arith)
digits_more (suc j) v known h g = (j, omega arith, omega arith, rw (le-ltb v 10 h))

-- how many digits a number has does not hang on those that follow
pub digits-length : (k v : ℕ) (a b : List ℕ) → length (digits_before k v a) + length b ≡ length (digits_before k v b) + length a
unfolding digits_before
digits-length zero v a b = omega arith
digits-length (suc k) v a b = go (ltb v 10) (digits-length k (v / 10) ((48 + v % 10) ∷ a) ((48 + v % 10) ∷ b))
  where
    go : (t : Bool) → length (digits_before k (v / 10) ((48 + v % 10) ∷ a)) + suc (length b) ≡ length (digits_before k (v / 10) ((48 + v % 10) ∷ b)) + suc (length a)
        → length (pick t ((48 + v) ∷ a) (digits_before k (v / 10) ((48 + v % 10) ∷ a))) + length b
        ≡ length (pick t ((48 + v) ∷ b) (digits_before k (v / 10) ((48 + v % 10) ∷ b))) + length a
    go true ih = omega arith
    go false ih = omega arith

pub digits-some : (k v : ℕ) (known : List ℕ) → length known < length (digits_before k v known)
unfolding digits_before
digits-some zero v known = omega arith
digits-some (suc k) v known = go (ltb v 10) (digits-some k (v / 10) ((48 + v % 10) ∷ known))
  where
    go : (t : Bool) → suc (length known) < length (digits_before k (v / 10) ((48 + v % 10) ∷ known))
        → length known < length (pick t ((48 + v) ∷ known) (digits_before k (v / 10) ((48 + v % 10) ∷ known)))
    go true ih = omega arith
    go false ih = omega arith

pub digits-most : (k v : ℕ) (known : List ℕ) → length (digits_before k v known) ≤ suc k + length known
unfolding digits_before
digits-most zero v known = omega arith
digits-most (suc k) v known = go (ltb v 10) (digits-most k (v / 10) ((48 + v % 10) ∷ known))
  where
    go : (t : Bool) → length (digits_before k (v / 10) ((48 + v % 10) ∷ known)) ≤ suc k + suc (length known)
        → length (pick t ((48 + v) ∷ known) (digits_before k (v / 10) ((48 + v % 10) ∷ known))) ≤ suc (suc k) + length known
    go true ih = omega arith
    go false ih = omega arith

-- a store before others
pub set_before : (vs l : List ℕ) (i j : ℕ) (a : ℕ) → j < i → set (sets l i vs) j a ≡ sets (set l j a) i vs
set_before [] l i j a h = refl
set_before (v ∷ vs) l i j a h =
    set_before vs (set l i v) (suc i) j a (omega arith) ∙ ap (λ (m : List ℕ). sets m (suc i) vs) (set_comm l i j v a (λ e. omega arith))

-- one digit more before those that are stored
pub stored : (known o out : List ℕ) (i d : ℕ) → out ≡ sets o (i + 1) known → set out i d ≡ sets o i (d ∷ known)
stored known o out i d e =
    rw e (set_before known o (i + 1) i d (omega arith) ∙ ap (λ (k : ℕ). sets (set o i d) k known) (add-one i))

-- an id, by its text's first byte
pub id-empty : (s : List ℕ) → slice_get s 0 ≡ None → id_of s ≡ None
unfolding id_of
id-empty [] h = refl
id-empty (b ∷ s) h = let z : ◌≡◌ {A = ℕ} 0 1 = cc in absurd (omega arith)

pub id-zero : (s : List ℕ) (b : ℕ) → slice_get s 0 ≡ Some b → b ≡ 48 → id_of s ≡ then_some (nat_eq (length s) 1) 0
unfolding id_of zero_or
id-zero [] b h e = let z : ◌≡◌ {A = ℕ} 0 1 = cc in absurd (omega arith)
id-zero (a ∷ []) b h e = let f : a ≡ 48 = cc in rw (eq-eqb a 48 f)
id-zero (a ∷ d ∷ s) b h e =
    let f : a ≡ 48 = cc in
    rw (eq-eqb a 48 f, ne_eqb (length (a ∷ d ∷ s)) 1 (λ z. omega arith))

pub id-digits : (s : List ℕ) (b : ℕ) → slice_get s 0 ≡ Some b → (b ≡ 48 → ⊥) → id_of s ≡ digits_of s
unfolding id_of
id-digits [] b h e = let z : ◌≡◌ {A = ℕ} 0 1 = cc in absurd (omega arith)
id-digits (a ∷ s) b h e = rw (ne_eqb a 48 (λ f. e (cc)))

-- one id more, or none where the list is full
pub push-full : (ids : Ids) (v : ℕ) → 32 ≤ ids.count → pushed ids v ≡ ids
unfolding pushed
push-full ids v h = rw (le-leb 32 ids.count h)

pub push-more : (ids : Ids) (v : ℕ) → ids.count < 32 → pushed ids v ≡ record { list = set ids.list ids.count v; count = ids.count + 1 }
unfolding pushed
push-more ids v h = rw (lt-leb 32 ids.count h)

-- an id, case by case, and digits, step by step
pub ruleset id_steps = (id-empty, id-zero, id-digits)

pub ruleset digit_steps = (behind-start, behind-other, behind-digit, behind-large, behind-end)
