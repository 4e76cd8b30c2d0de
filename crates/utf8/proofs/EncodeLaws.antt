-- Laws of the encoding: the bytes of a scalar value are those of a form, the bytes of a form are those of a scalar value, and they decode to it.
use Prim.Native.Nat.{ℕ, zero, suc, ◌+◌, ◌-◌, ◌*◌, ◌/◌, ◌%◌, ◌≤◌, ◌<◌}
use mathlib.Core.Path.{◌≡◌, refl, ap, ◌∙◌}
use mathlib.Core.List.{List, [], ◌∷◌, ◌++◌}
use mathlib.Core.Bool.{Bool, true, false≢true}
use native.Mathlib.Omega.{arith}
use borrow.Author.Tests.{le-leb, lt-leb, leb-true, leb-false}
use lib.Dec.{leb}
use Rattle.buffer.specs.Pick.{pick}
use Rattle.buffer.proofs.Tests.{split, both}
use Rattle.utf8.specs.Utf8.{Range, within, Form, forms, behind, after, or_false, utf8_from}
use Rattle.utf8.specs.Encode.{is_scalar, encoded, all_encoded}
use Rattle.utf8.specs.Statements.{Scalars}
use Rattle.utf8.proofs.FormLaws.{within_in, form_at, form-behind}

-- a number is at most another, or above it
upto : {X : Type 0} (c m : ℕ) → (c ≤ m → X) → (m < c → X) → X
upto c m f g = split (leb c m) (λ e. f (leb-true c m e)) (λ e. g (leb-false c m e))

-- a scalar value, by its bounds
abbrev Scalar : ℕ → Type 0
Scalar c = (c ≤ 0x10FFFF) × (0xD7FF < c → 0xE000 ≤ c)

-- the test tells the bounds, and the bounds the test
scalar-true : (c : ℕ) → is_scalar c ≡ true → Scalar c
unfolding is_scalar
scalar-true c e =
    upto c 0xD7FF
    (λ h. omega arith)
    (λ l. let z = both _ _ (rw (lt-leb c 0xD7FF l) at e) in (leb-true c 0x10FFFF z.1, λ m. leb-true 0xE000 c z.0))

is-scalar : (c : ℕ) → Scalar c → is_scalar c ≡ true
unfolding is_scalar
is-scalar c h =
    upto c 0xD7FF
    (λ k. rw (le-leb c 0xD7FF k))
    (λ l. rw (lt-leb c 0xD7FF l, le-leb 0xE000 c (h.1 l), le-leb c 0x10FFFF h.0))

-- the encoding by its length
module _ (c : ℕ) where
  one : c ≤ 0x7F → encoded c ≡ c ∷ []
  unfolding encoded
  one h = rw (le-leb c 0x7F h)

  two : 0x7F < c → c ≤ 0x7FF → encoded c ≡ (0xC0 + c / 64) ∷ (0x80 + c % 64) ∷ []
  unfolding encoded
  two l h = rw (lt-leb c 0x7F l, le-leb c 0x7FF h)

  three : 0x7FF < c → c ≤ 0xFFFF → encoded c ≡ (0xE0 + c / 4096) ∷ (0x80 + c / 64 % 64) ∷ (0x80 + c % 64) ∷ []
  unfolding encoded
  three l h = rw (lt-leb c 0x7F (omega arith), lt-leb c 0x7FF l, le-leb c 0xFFFF h)

  four : 0xFFFF < c → encoded c ≡ (0xF0 + c / 262144) ∷ (0x80 + c / 4096 % 64) ∷ (0x80 + c / 64 % 64) ∷ (0x80 + c % 64) ∷ []
  unfolding encoded
  four l = rw (lt-leb c 0x7F (omega arith), lt-leb c 0x7FF (omega arith), lt-leb c 0xFFFF l)

-- bytes in ranges, one for one
abbrev Fits : List Range → List ℕ → Type 0
Fits [] [] = Unit {0}
Fits [] (b ∷ bs) = ⊥
Fits (r ∷ rs) [] = ⊥
Fits (r ∷ rs) (b ∷ bs) = (r.low ≤ b) × (b ≤ r.high) × Fits rs bs

-- the ranges of all bytes of a form
abbrev whole : Form → List Range
whole f = f.first ∷ f.rest

-- bytes that are in the ranges of a form
abbrev Formed : List ℕ → Type 0
Formed bs = (k : ℕ) × ((k < 9) × Fits (whole (form_at forms k)) bs)

-- a scalar value's bytes are those of a form
encoded-formed : (c : ℕ) → Scalar c → Formed (encoded c)
encoded-formed c s =
    upto c 0x7F (λ h. rw (one c h) (0, omega arith))
    (λ l. upto c 0x7FF (λ h. rw (two c l h) (1, omega arith))
    (λ l. upto c 0xFFFF
    (λ h. rw (three c l h)
    (upto c 0xFFF (λ h. (2, omega arith))
    (λ l. upto c 0xCFFF (λ h. (3, omega arith))
    (λ l. upto c 0xD7FF (λ h. (4, omega arith)) (λ l. let z = s.1 l in (5, omega arith))))))
    (λ l. rw (four c l)
    (upto c 0x3FFFF (λ h. (6, omega arith))
    (λ l. upto c 0xFFFFF (λ h. (7, omega arith)) (λ l. (8, omega arith)))))))

-- the pass goes over the bytes of a form to what follows
module _ (s : List ℕ) where
  fits-passed : (rs : List Range) (bs : List ℕ) → Fits rs bs → utf8_from rs (bs ++ s) ≡ utf8_from [] s
  unfolding utf8_from after
  fits-passed [] [] h = refl
  fits-passed [] (b ∷ bs) h = absurd h
  fits-passed (r ∷ rs) [] h = absurd h
  fits-passed (r ∷ rs) (b ∷ bs) h = rw (within_in r b h.0 h.1) (fits-passed rs bs h.2)

  formed-passed : (bs : List ℕ) → Formed bs → utf8_from [] (bs ++ s) ≡ utf8_from [] s
  unfolding utf8_from after
  formed-passed [] h = refl
  formed-passed (b ∷ bs) (k, (l, h)) = rw (form-behind b k l h.0 h.1) (fits-passed (form_at forms k).rest bs h.2)

-- what is encoded from scalar values is well-formed
pub encoded-passed : (cs : List ℕ) → Scalars cs → utf8_from [] (all_encoded cs) ≡ true
unfolding all_encoded utf8_from
encoded-passed [] h = refl
encoded-passed (c ∷ cs) h =
    formed-passed (all_encoded cs) (encoded c) (encoded-formed c (scalar-true c h.0)) ∙ encoded-passed cs h.1

-- the number that the bytes of a form spell
abbrev number : List ℕ → ℕ
number [] = 0
number (a ∷ []) = a
number (a ∷ b ∷ []) = a * 64 + b - 0x3080
number (a ∷ b ∷ d ∷ []) = a * 4096 + b * 64 + d - 0xE2080
number (a ∷ b ∷ d ∷ e ∷ bs) = a * 262144 + b * 4096 + d * 64 + e - 0x3C82080

-- bytes that are the encoding of c, by its equations
abbrev Spells : List ℕ → ℕ → Type 0
Spells [] c = ⊥
Spells (a ∷ []) c = (c ≤ 0x7F) × (a ≡ c)
Spells (a ∷ b ∷ []) c = (0x7F < c) × (c ≤ 0x7FF) × (a ≡ 0xC0 + c / 64) × (b ≡ 0x80 + c % 64)
Spells (a ∷ b ∷ d ∷ []) c = (0x7FF < c) × (c ≤ 0xFFFF) × (a ≡ 0xE0 + c / 4096) × (b ≡ 0x80 + c / 64 % 64) × (d ≡ 0x80 + c % 64)
Spells (a ∷ b ∷ d ∷ e ∷ []) c =
    (0xFFFF < c) × (a ≡ 0xF0 + c / 262144) × (b ≡ 0x80 + c / 4096 % 64) × (d ≡ 0x80 + c / 64 % 64) × (e ≡ 0x80 + c % 64)
Spells (a ∷ b ∷ d ∷ e ∷ f ∷ bs) c = ⊥

spells-encoded : (bs : List ℕ) (c : ℕ) → Spells bs c → bs ≡ encoded c
spells-encoded [] c h = absurd h
spells-encoded (a ∷ []) c (h, p) = cc (one c h)
spells-encoded (a ∷ b ∷ []) c (l, h, p, q) = cc (two c l h)
spells-encoded (a ∷ b ∷ d ∷ []) c (l, h, p, q, r) = cc (three c l h)
spells-encoded (a ∷ b ∷ d ∷ e ∷ []) c (l, p, q, r, t) = cc (four c l)
spells-encoded (a ∷ b ∷ d ∷ e ∷ f ∷ bs) c h = absurd h

-- what holds of all bytes in these ranges, and of those of all forms
abbrev Every : List Range → (List ℕ → Type 0) → Type 0
Every [] P = P []
Every (r ∷ rs) P = (b : ℕ) → r.low ≤ b → b ≤ r.high → Every rs (λ (bs : List ℕ). P (b ∷ bs))

abbrev EveryForm : List Form → (List ℕ → Type 0) → Type 0
EveryForm [] P = Unit {0}
EveryForm (f ∷ fs) P = Every (whole f) P × EveryForm fs P

-- bytes of a scalar value
abbrev Char : List ℕ → Type 0
Char bs = Spells bs (number bs) × Scalar (number bs)

-- the bytes of a form are those of a scalar value
forms-chars : EveryForm forms Char
forms-chars =
    (omega arith, (omega arith, (omega arith, (omega arith, (omega arith, (omega arith, (omega arith, (omega arith, (omega arith, tt)))))))))

-- a byte that a range admits lies in it
within-true : (r : Range) (b : ℕ) → within r b ≡ true → (r.low ≤ b) × (b ≤ r.high)
within-true r b e = let z = both _ _ e in (leb-true r.low b z.0, leb-true b r.high z.1)

-- a byte that begins a character: the ranges behind it, and what holds of the forms' bytes holds of it with all in those ranges
module _ (P : List ℕ → Type 0) (g : List Range → Bool) (b : ℕ) where
  begun : (fs : List Form) → EveryForm fs P → or_false g (behind b fs) ≡ true
      → (rs : List Range) × (g rs ≡ true) × Every rs (λ (bs : List ℕ). P (b ∷ bs))
  unfolding behind
  begun [] h e = absurd (false≢true e)
  begun (f ∷ fs) h e =
      split (within f.first b)
      (λ t. let z = within-true f.first b t in (f.rest, rw t at e, h.0 b z.0 z.1))
      (λ t. begun fs h.1 (rw t at e))

-- well-formed bytes are what was left of a character, with what holds of all such, and encodings of scalar values behind it
abbrev Read : (List ℕ → Type 0) → List ℕ → Type 0
Read P s = (bs cs : List ℕ) × P bs × Scalars cs × (s ≡ bs ++ all_encoded cs)

read : (rs : List Range) (s : List ℕ) (P : List ℕ → Type 0) → Every rs P → utf8_from rs s ≡ true → Read P s
unfolding utf8_from after all_encoded
read [] [] P h e = ([], [], h, tt, refl)
read (r ∷ rs) [] P h e = absurd (false≢true e)
read [] (b ∷ s) P h e =
    let (rs, f, m) = begun Char (λ (rs : List Range). utf8_from rs s) b forms forms-chars e in
    let (bs, cs, w, k, t) = read rs s (λ (bs : List ℕ). Char (b ∷ bs)) m f in
    let c = number (b ∷ bs) in
    ([], c ∷ cs, h, (is-scalar c w.1, k), ap (◌∷◌ b) t ∙ ap (λ (l : List ℕ). l ++ all_encoded cs) (spells-encoded (b ∷ bs) c w.0))
read (r ∷ rs) (b ∷ s) P h e =
    split (within r b)
    (λ t.
    let z = within-true r b t in
    let (bs, cs, w, k, q) = read rs s (λ (bs : List ℕ). P (b ∷ bs)) (h b z.0 z.1) (rw t at e) in
    (b ∷ bs, cs, w, k, ap (◌∷◌ b) q))
    (λ t. absurd (false≢true (rw t at e)))

-- every well-formed text is encoded from scalar values
pub text-encoded : (s : List ℕ) → utf8_from [] s ≡ true → (cs : List ℕ) × Scalars cs × (s ≡ all_encoded cs)
text-encoded s e =
    let (bs, cs, p, k, t) = read [] s (λ (bs : List ℕ). bs ≡ []) refl e in
    (cs, k, t ∙ ap (λ (l : List ℕ). l ++ all_encoded cs) p)

-- the decoder: the bits of a character so far, and how many of its bytes are to come
pub decoded : ℕ → ℕ → List ℕ → List ℕ
decoded c n [] = []
decoded c zero (b ∷ s) =
    pick (leb b 0x7F) (b ∷ decoded 0 0 s)
    (pick (leb b 0xDF) (decoded (b - 0xC0) 1 s)
    (pick (leb b 0xEF) (decoded (b - 0xE0) 2 s)
    (decoded (b - 0xF0) 3 s)))
decoded c (suc zero) (b ∷ s) = (c * 64 + (b - 0x80)) ∷ decoded 0 0 s
decoded c (suc (suc n)) (b ∷ s) = decoded (c * 64 + (b - 0x80)) (suc n) s

-- it takes a character off and gives its number
decoded-char : (c : ℕ) (s : List ℕ) → decoded 0 0 (encoded c ++ s) ≡ c ∷ decoded 0 0 s
unfolding decoded
decoded-char c s =
    upto c 0x7F
    (λ h. rw (one c h, le-leb c 0x7F h))
    (λ l. upto c 0x7FF
    (λ h. rw (two c l h, lt-leb (0xC0 + c / 64) 0x7F (omega arith), le-leb (0xC0 + c / 64) 0xDF (omega arith)) (same (omega arith)))
    (λ l. upto c 0xFFFF
    (λ h. let a = 0xE0 + c / 4096 in
    rw (three c l h, lt-leb a 0x7F (omega arith), lt-leb a 0xDF (omega arith), le-leb a 0xEF (omega arith)) (same (omega arith)))
    (λ l. let a = 0xF0 + c / 262144 in
    let p : c / 64 / 64 ≡ c / 4096 = omega arith in
    let q : c / 4096 / 64 ≡ c / 262144 = omega arith in
    rw (four c l, lt-leb a 0x7F (omega arith), lt-leb a 0xDF (omega arith), lt-leb a 0xEF (omega arith)) (same (omega arith)))))
  where
    same : {x : ℕ} → x ≡ c → x ∷ decoded 0 0 s ≡ c ∷ decoded 0 0 s
    same e = ap (λ (x : ℕ). x ∷ decoded 0 0 s) e

-- decoding gives the numbers back
pub decoded-all : (cs : List ℕ) → decoded 0 0 (all_encoded cs) ≡ cs
unfolding decoded all_encoded
decoded-all [] = refl
decoded-all (c ∷ cs) = decoded-char c (all_encoded cs) ∙ ap (◌∷◌ c) (decoded-all cs)
