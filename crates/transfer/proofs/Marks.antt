-- Laws of the bitmap.
use Rattle.std.proofs.Common.{◌≡◌, ℕ, zero, suc, ◌-◌, ◌/◌, ◌%◌, ◌<◌, ◌≤◌, Bool, true, false, ltb, List, [], ◌∷◌, length, get_or, set, replicate, sym, refl, ap, ◌∙◌, arith, length-set, get_or-set_same, ltb-false, ltb-true, le-ltb, lt-ltb}
use lib.ListN.{get_or-replicate}
use Rattle.transfer.specs.Bitmap.{bit, raised, held, marked}
use Rattle.transfer.proofs.Bits.{bit-raised, bit-raised-other, raised-swap, bit-none}

-- the steps of the code
module _ (map : List ℕ) (n : ℕ) where
  pub held_below : n < 1024 → held map n ≡ bit (7 - n % 8) (get_or map (n / 8) 0)
  unfolding held
  held_below h = rw (lt-ltb n 1024 h)

  pub held-beyond : 1024 ≤ n → held map n ≡ false
  unfolding held
  held-beyond h = rw (le-ltb n 1024 h)

  pub marked-below : n < 1024 → marked map n ≡ set map (n / 8) (raised (7 - n % 8) (get_or map (n / 8) 0))
  unfolding marked
  marked-below h = rw (lt-ltb n 1024 h)

  pub marked-beyond : 1024 ≤ n → marked map n ≡ map
  unfolding marked
  marked-beyond h = rw (le-ltb n 1024 h)

-- a bit of the byte at i, read and set
abbrev look : List ℕ → ℕ → ℕ → Bool
look map i j = bit j (get_or map i 0)

abbrev mark : List ℕ → ℕ → ℕ → List ℕ
mark map i j = set map i (raised j (get_or map i 0))

look-mark : (map : List ℕ) (i j : ℕ) → i < length map → look (mark map i j) i j ≡ true
look-mark map i j h = rw (get_or-set_same map i (raised j (get_or map i 0)) 0 h) (bit-raised j (get_or map i 0))

look-other : (map : List ℕ) (i j k l : ℕ) → (k ≡ i → l ≡ j → ⊥) → look (mark map i j) k l ≡ look map k l
look-other [] i j k l h = refl
look-other (x ∷ map) zero j zero l h = bit-raised-other j l x (h refl)
look-other (x ∷ map) zero j (suc k) l h = refl
look-other (x ∷ map) (suc i) j zero l h = refl
look-other (x ∷ map) (suc i) j (suc k) l h = look-other map i j k l (λ e f. h (ap suc e) f)

mark-swap : (map : List ℕ) (i j k l : ℕ) → mark (mark map i j) k l ≡ mark (mark map k l) i j
mark-swap [] i j k l = refl
mark-swap (x ∷ map) zero j zero l = ap (λ (y : ℕ). y ∷ map) (raised-swap j l x)
mark-swap (x ∷ map) zero j (suc k) l = refl
mark-swap (x ∷ map) (suc i) j zero l = refl
mark-swap (x ∷ map) (suc i) j (suc k) l = ap (λ (r : List ℕ). x ∷ r) (mark-swap map i j k l)

-- a number has a bit or is beyond
ranged : {X : Type 0} (n : ℕ) → (n < 1024 → X) → (1024 ≤ n → X) → X
ranged {X} n f g = go (ltb n 1024) refl
  where
    go : (t : Bool) → ltb n 1024 ≡ t → X
    go true e = f (ltb-true n 1024 e)
    go false e = g (ltb-false n 1024 e)

pub length_marked : (map : List ℕ) (n : ℕ) → length (marked map n) ≡ length map
length_marked map n =
    ranged n (λ h. ap length (marked-below map n h) ∙ simp length-set) (λ h. ap length (marked-beyond map n h))

-- a block that is marked is held, and nothing else changes
pub held-marked : (map : List ℕ) (n : ℕ) → n < 1024 → length map ≡ 128 → held (marked map n) n ≡ true
held-marked map n h k =
    held_below (marked map n) n h ∙ rw (marked-below map n h) (look-mark map (n / 8) (7 - n % 8) (omega arith))

pub held-other : (map : List ℕ) (m n : ℕ) → (m ≡ n → ⊥) → held (marked map n) m ≡ held map m
held-other map m n h =
    ranged n (λ a. ranged m (inner a) (λ b. held-beyond (marked map n) m b ∙ sym (held-beyond map m b))) (λ a. rw (marked-beyond map n a))
  where
    inner : n < 1024 → m < 1024 → held (marked map n) m ≡ held map m
    inner a b =
        held_below (marked map n) m b
        ∙ rw (marked-below map n a) (look-other map (n / 8) (7 - n % 8) (m / 8) (7 - m % 8) (λ e f. h (omega arith)))
        ∙ sym (held_below map m b)

pub marked-swap : (map : List ℕ) (m n : ℕ) → marked (marked map m) n ≡ marked (marked map n) m
marked-swap map m n =
    ranged m (λ a. ranged n (inner a) (λ b. marked-beyond (marked map m) n b ∙ rw (marked-beyond map n b)))
    (λ a. rw (marked-beyond map m a) (sym (marked-beyond (marked map n) m a)))
  where
    inner : m < 1024 → n < 1024 → marked (marked map m) n ≡ marked (marked map n) m
    inner a b =
        marked-below (marked map m) n b
        ∙ rw (marked-below map m a, marked-below map n b) (mark-swap map (m / 8) (7 - m % 8) (n / 8) (7 - n % 8))
        ∙ sym (marked-below (marked map n) m a)

-- an empty bitmap holds nothing
pub held_none : (n : ℕ) → held (replicate 128 0) n ≡ false
held_none n =
    ranged n
    (λ h. held_below (replicate 128 0) n h ∙ ap (bit (7 - n % 8)) (get_or-replicate 128 (n / 8) 0 0 (omega arith)) ∙ bit-none (7 - n % 8))
    (held-beyond (replicate 128 0) n)
