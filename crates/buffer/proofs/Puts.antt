-- Laws of stores into a list, and of appending.
use Prim.Native.Nat.{ℕ, zero, suc, min, ◌+◌, ◌-◌, ◌≤◌, ◌<◌}
use mathlib.Core.Path.{◌≡◌, refl, sym, ap, ◌∙◌}
use mathlib.Core.List.{List, [], ◌∷◌, ◌++◌, append-nil}
use mathlib.Core.Bool.{Bool, true, false}
use native.Mathlib.Nat.{add-zero, add-suc, suc-add, le-add_right}
use native.Mathlib.Omega.{arith}
use borrow.Author.Tests.{leb-true, leb-false}
use lib.Dec.{leb}
use lib.ListN.{length, take, drop, set, take-append-drop, length-append, length-set, length-drop, drop_of_length-le, length-take}
use lib.Seq.{sets, length-sets, set_out, take-set-le, drop-set-add, take_all, sets-eq, take-append_seam}
use Rattle.buffer.specs.Pick.{pick}
use Rattle.buffer.specs.Stretch.{fits}
use Rattle.buffer.proofs.Stretches.{fits-true, fits-false, room}
use Rattle.buffer.specs.Put.{placed, after, Put, Appended}

module _ {A : Type 0} where
  -- stores past the end change nothing
  pub sets-out : (vs l : List A) (i : ℕ) → length l ≤ i → sets l i vs ≡ l
  sets-out [] l i h = refl
  sets-out (a ∷ vs) l i h =
      let g : length (set l i a) ≤ suc i = simp length-set (omega arith) in
      sets-out vs (set l i a) (suc i) g ∙ set_out l i a h

  -- stores into the part from `at` are stores into the whole, `at` further on
  pub sets-part : (vs l : List A) (at i : ℕ) → take at l ++ sets (drop at l) i vs ≡ sets l (at + i) vs
  sets-part [] l at i = take-append-drop at l
  sets-part (a ∷ vs) l at i =
      rw (← take-set-le at l (at + i) a (le-add_right at i), ← drop-set-add at l i a)
      (sets-part vs (set l (at + i) a) at (suc i) ∙ ap (λ (k : ℕ). sets (set l (at + i) a) k vs) (add-suc at i))

  pub sets-append : (a l b : List A) (i : ℕ) → sets l i (a ++ b) ≡ sets (sets l i a) (i + length a) b
  sets-append [] l b i = rw add-zero
  sets-append (x ∷ a) l b i = rw add-suc (sets-append a (set l i x) b (suc i) ∙ rw suc-add)

  -- stores into the part from `at` to the end, put back in its place
  pub sets-tail : (vs l ys : List A) (at : ℕ) → at ≤ length l
      → ys ≡ sets (take (length l - at) (drop at l)) 0 vs → take at l ++ (ys ++ drop (length l - at) (drop at l)) ≡ sets l at vs
  sets-tail vs l ys at h e =
      let all : take (length l - at) (drop at l) ≡ drop at l = take_all (length l - at) (drop at l) (simp length-drop (omega arith)) in
      let none : drop (length l - at) (drop at l) ≡ [] = drop_of_length-le (drop at l) {i = length l - at} (simp length-drop (omega arith)) in
      rw (none, e, all, append-nil) (sets-part vs l at 0 ∙ rw add-zero)

  -- stores from the front on leave what fits of the source, and then what stood behind
  pub sets-front : (l s : List A) (n : ℕ) → n ≡ min (length s) (length l) → take n s ++ drop n l ≡ sets l 0 s
  sets-front l s n h =
      let e : sets l 0 (take n s) ≡ take n s ++ drop (0 + length (take n s)) l = sets-eq (take n s) l 0 (simp length-take (omega arith)) in
      let k : 0 + length (take n s) ≡ n = simp length-take (omega arith) in
      ap (λ (i : ℕ). take n s ++ drop i l) (sym k) ∙ sym e ∙ sym (more (length s - n) refl) ∙ ap (sets l 0) (take-append-drop n s)
    where
      more : (i : ℕ) → length s - n ≡ i → sets l 0 (take n s ++ drop n s) ≡ sets l 0 (take n s)
      more zero e = rw (drop_of_length-le s {i = n} (omega arith), append-nil)
      more (suc i) e =
          let all : length l ≤ 0 + length (take n s) = simp length-take (omega arith) in
          sets-append (take n s) l (drop n s) 0 ∙ sets-out (drop n s) (sets l 0 (take n s)) (0 + length (take n s)) (simp length-sets all)

-- appending whole, and not at all
pub put-fits : (out : List ℕ) (at : ℕ) (bs : List ℕ) → fits (length out) at (length bs) ≡ true → Put out at bs (sets out at bs) (at + length bs)
unfolding placed after
put-fits out at bs h = record { bytes = rw h; position = rw h }

pub put_full : (out : List ℕ) (at : ℕ) (bs : List ℕ) → fits (length out) at (length bs) ≡ false → Put out at bs out (length out + 1)
unfolding placed after
put_full out at bs h = record { bytes = rw h; position = rw h }

-- what is placed has the length of what was there
pub length-placed : (out : List ℕ) (at : ℕ) (bs : List ℕ) → length (placed out at bs) ≡ length out
unfolding placed
length-placed out at bs = go (fits (length out) at (length bs))
  where
    go : (t : Bool) → length (pick t (sets out at bs) out) ≡ length out
    go true = length-sets out at bs
    go false = refl

-- what fits whole may be appended in pieces
pub put-join : (out : List ℕ) (at : ℕ) (a : List ℕ) {mid : List ℕ} {m : ℕ} (b : List ℕ) {left : List ℕ} {n : ℕ}
    → fits (length out) at (length (a ++ b)) ≡ true → Put out at a mid m → Put mid m b left n → Put out at (a ++ b) left n
unfolding placed after
put-join out at a {mid} {m} b {left} {n} g p q =
    let k : length (a ++ b) ≡ length a + length b = length-append a b in
    let h = room (length out) at (length (a ++ b)) refl g in
    let e = fits-true (length out) at (length a) (omega arith) in
    let em : mid ≡ sets out at a = rw e at p.bytes in
    let en : m ≡ at + length a = rw e at p.position in
    let el : length mid ≡ length out = ap length em ∙ length-sets out at a in
    let f = fits-true (length mid) m (length b) (omega arith) in
    let fl : left ≡ sets mid m b = rw f at q.bytes in
    let fn : n ≡ m + length b = rw f at q.position in
    record {
      bytes = rw g (fl ∙ rw (em, en, sets-append a out b at));
      position = rw g (omega arith);
    }

-- pieces appended one after the other
abbrev pub all : List (List ℕ) → List ℕ
all [] = []
all (p ∷ ps) = p ++ all ps

pub data Chain : List ℕ → ℕ → List (List ℕ) → List ℕ → ℕ → Type 0 where
  done : {out : List ℕ} {at : ℕ} → Chain out at [] out at
  next : {out : List ℕ} {at : ℕ} {p mid : List ℕ} {m : ℕ} {ps : List (List ℕ)} {left : List ℕ} {n : ℕ}
      → Put out at p mid m → Chain mid m ps left n → Chain out at (p ∷ ps) left n

-- where they fit whole, they are appended whole
pub chain_fits : {out : List ℕ} {at : ℕ} {ps : List (List ℕ)} {left : List ℕ} {n : ℕ} → Chain out at ps left n
    → at + length (all ps) ≤ length out → (left ≡ sets out at (all ps)) × (n ≡ at + length (all ps))
unfolding placed after
chain_fits {out} {at} done h = (refl, omega arith)
chain_fits {out} {at} {left = left} {n = n} (next {p = p} {mid = mid} {m = m} {ps = ps} w c) h =
    let k : length (p ++ all ps) ≡ length p + length (all ps) = length-append p (all ps) in
    let e = fits-true (length out) at (length p) (omega arith) in
    let em : mid ≡ sets out at p = rw e at w.bytes in
    let en : m ≡ at + length p = rw e at w.position in
    let el : length mid ≡ length out = ap length em ∙ length-sets out at p in
    let r = chain_fits c (omega arith) in
    (r.0 ∙ rw (em, en, sets-append p out (all ps) at), omega (arith, r.1))

-- a value put together at the front of a buffer is its first bytes
pub record Whole (out : List ℕ) (bs : List ℕ) (left : List ℕ) (n : ℕ) : Type 0 where
  pub size : n ≡ length bs
  pub bytes : take n left ≡ bs
  pub room : n ≤ length left

pub chain-whole : {out : List ℕ} {ps : List (List ℕ)} {left : List ℕ} {n : ℕ} → Chain out 0 ps left n → length (all ps) ≤ length out → Whole out (all ps) left n
chain-whole {out} {ps} {left} {n} c h =
    let r = chain_fits c (omega arith) in
    let z : n ≡ length (all ps) = omega (arith, r.1) in
    let e : left ≡ all ps ++ drop (0 + length (all ps)) out = r.0 ∙ sets-eq (all ps) out 0 (omega arith) in
    let l : length left ≡ length out = ap length r.0 ∙ length-sets out 0 (all ps) in
    record { size = z; bytes = rw (z, e, take-append_seam (all ps) (drop (0 + length (all ps)) out)); room = omega arith }

-- where pieces do not fit, the position is past the end and stays there
after-fits : (len at n : ℕ) → at + n ≤ len → after len at n ≡ at + n
unfolding after
after-fits len at n h = rw (fits-true len at n h)

after-full : (len at n : ℕ) → len < at + n → after len at n ≡ len + 1
unfolding after
after-full len at n h = rw (fits-false len at n h)

fits_or : {X : Type 0} (a b : ℕ) → (a ≤ b → X) → (b < a → X) → X
fits_or {X = X} a b y n = go (leb a b) refl
  where
    go : (t : Bool) → leb a b ≡ t → X
    go true e = y (leb-true a b e)
    go false e = n (leb-false a b e)

pub appended-put : {out : List ℕ} {at : ℕ} {bs left : List ℕ} {n : ℕ} → Put out at bs left n → Appended out at bs left n
unfolding placed
appended-put {out} {at} {bs} {left} {n} p =
    record {
      position = p.position;
      bytes = λ h.
          fits_or (at + length bs) (length out)
          (λ k. p.bytes ∙ rw (fits-true (length out) at (length bs) k))
          (λ k. let z = after-full (length out) at (length bs) k in absurd (omega (arith, p.position)));
      kept = ap length p.bytes ∙ length-placed out at bs;
    }

pub appended-none : (out : List ℕ) (at : ℕ) → at ≤ length out + 1 → Appended out at [] out at
appended-none out at h =
    record {
      position =
          fits_or at (length out)
          (λ k. let z = after-fits (length out) at 0 (omega arith) in omega (arith, z))
          (λ k. let z = after-full (length out) at 0 (omega arith) in omega (arith, z));
      bytes = λ k. refl;
      kept = refl;
    }

pub appended-most : {out : List ℕ} {at : ℕ} {bs left : List ℕ} {n : ℕ} → Appended out at bs left n → n ≤ length left + 1
appended-most {out} {at} {bs} {left} {n} p =
    let k = p.kept in
    fits_or (at + length bs) (length out)
    (λ h. let z = after-fits (length out) at (length bs) h in omega (arith, p.position))
    (λ h. let z = after-full (length out) at (length bs) h in omega (arith, p.position))

pub appended-join : {out : List ℕ} {at : ℕ} (a : List ℕ) {mid : List ℕ} {m : ℕ} (b : List ℕ) {left : List ℕ} {n : ℕ}
    → Appended out at a mid m → Appended mid m b left n → Appended out at (a ++ b) left n
appended-join {out} {at} a {mid} {m} b {left} {n} p q =
    let l : length (a ++ b) ≡ length a + length b = length-append a b in
    let k = p.kept in
    fits_or (at + length (a ++ b)) (length out)
    (λ h.
    let y = after-fits (length out) at (length a) (omega arith) in
    let em : m ≡ at + length a = omega (arith, p.position) in
    let z = after-fits (length mid) m (length b) (omega arith) in
    let x = after-fits (length out) at (length (a ++ b)) h in
    record {
      position = omega (arith, q.position);
      bytes = λ g. q.bytes (omega arith) ∙ rw (p.bytes (omega arith), em, sets-append a out b at);
      kept = q.kept ∙ p.kept;
    })
    (λ h.
    let x = after-full (length out) at (length (a ++ b)) h in
    let e : n ≡ length out + 1 =
    fits_or (at + length a) (length out)
    (λ g.
    let y = after-fits (length out) at (length a) g in
    let z = after-full (length mid) m (length b) (omega (arith, p.position)) in
    omega (arith, q.position))
    (λ g.
    let y = after-full (length out) at (length a) g in
    let z = after-full (length mid) m (length b) (omega (arith, p.position)) in
    omega (arith, q.position)) in
    record { position = omega arith; bytes = λ g. absurd (omega arith); kept = q.kept ∙ p.kept })

-- where all fits, all is there
pub appended-all : {out : List ℕ} {at : ℕ} {bs left : List ℕ} {n : ℕ} → Appended out at bs left n → at + length bs ≤ length out
    → (left ≡ sets out at bs) × (n ≡ at + length bs)
appended-all {out} {at} {bs} {left} {n} p h =
    let z = after-fits (length out) at (length bs) h in
    let e : n ≡ at + length bs = omega (arith, p.position) in
    (p.bytes (omega arith), e)

-- at the front of a buffer, what fits is its first bytes
pub appended-front : {out : List ℕ} {bs left : List ℕ} {n : ℕ} → Appended out 0 bs left n → n ≤ length out → (n ≡ length bs) × (take n left ≡ bs)
appended-front {out} {bs} {left} {n} p h =
    fits_or (0 + length bs) (length out)
    (λ k.
    let r = appended-all p k in
    let z : n ≡ length bs = omega (arith, r.1) in
    let e : left ≡ bs ++ drop (0 + length bs) out = r.0 ∙ sets-eq bs out 0 (omega arith) in
    (z, rw (z, e, take-append_seam bs (drop (0 + length bs) out))))
    (λ k. let z = after-full (length out) 0 (length bs) k in absurd (omega (arith, p.position)))
