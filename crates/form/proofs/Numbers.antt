-- Numbers, and bytes behind their length, stand as they are written where they are not padded.
use Rattle.std.specs.Prelude.{None, Option, Some}
use Prim.Native.Nat.{ℕ, zero, suc, ◌+◌, ◌*◌, ◌-◌, ◌/◌, ◌%◌, ◌≤◌, ◌<◌}
use mathlib.Core.Path.{◌≡◌, refl, sym, ap, ap₂, ◌∙◌}
use mathlib.Core.List.{List, [], ◌∷◌, ◌++◌}
use mathlib.Core.Bool.{Bool, true, false, ◌||◌}
use native.Mathlib.Omega.{arith}
use borrow.Author.Tests.{eqb-false, le-ltb, ltb-true, ltb-false}
use lib.Dec.{eqb, ltb}
use lib.ListN.{length, take, drop, length-take, length-drop, take-append-drop}
use lib.Seq.{drop-drop}
use Rattle.buffer.specs.Pick.{pick}
use Rattle.buffer.specs.Stretch.{fits, stretch}
use Rattle.buffer.proofs.Tests.{neither}
use Rattle.buffer.proofs.Stretches.{room, stretch-to, stretch-outside}
use Rattle.varint.specs.Varint.{more, spelt, varint_at, continued, spelling, varint, of_stretch, of_length, delimited_at, encloses, stands}
use Rattle.varint.proofs.Laws.{spelling-end}
use Rattle.form.specs.Bytes.{AreBytes}
use Rattle.form.specs.Statements.{NumberUnchanged}
use Rattle.varint.specs.declared.Varint.{Varint}
use Rattle.varint.proofs.Stretched.{encloses-is}
use Rattle.varint.proofs.Theorems.{stands-is}

-- parts of bytes are bytes
pub bytes_drop : (i : ℕ) (s : List ℕ) → AreBytes s → AreBytes (drop i s)
bytes_drop zero s a = a
bytes_drop (suc i) [] a = tt
bytes_drop (suc i) (b ∷ s) a = bytes_drop i s a.1

pub bytes_take : (i : ℕ) (s : List ℕ) → AreBytes s → AreBytes (take i s)
bytes_take zero s a = tt
bytes_take (suc i) [] a = tt
bytes_take (suc i) (b ∷ s) a = (a.0, bytes_take i s a.1)

-- a spelling that was read and is not padded is the shortest, and the number's end is where it ends
record Same (short s : List ℕ) (at next : ℕ) : Type 0 where
  bytes : short ++ drop (length short) s ≡ s
  ends : at + length short ≡ next

same_more : (k b : ℕ) (s : List ℕ) (at v next : ℕ) (r : Option Varint) → 128 ≤ b → b < 256
    → ((x m : ℕ) → r ≡ stands x m false → Same (spelling k x) s (at + 1) m) → more b r ≡ stands v next false → Same (spelling (suc k) v) (b ∷ s) at next
unfolding more spelling continued
same_more k b s at v next (Some u) h g ih e =
    let r = stands-is (b % 128 + 128 * u.value) u.next v next (u.padded || eqb u.value 0) false e in
    let n = neither u.padded (eqb u.value 0) r.2 in
    let y = eqb-false u.value 0 n.1 in
    let d : v / 128 ≡ u.value = omega arith in
    let c : v % 128 + 128 ≡ b = omega arith in
    let w = ih u.value u.next (ap (stands u.value u.next) n.0) in
    rw (le-ltb v 128 (omega arith), d, c) (record { bytes = ap (◌∷◌ b) w.bytes; ends = let z = w.ends in omega arith })
same_more k b s at v next None h g ih e = let z : ◌≡◌ {A = ℕ} 0 1 = cc in absurd (omega arith)

same-one : (k b : ℕ) (s : List ℕ) (at v next : ℕ) → b < 128 → stands b (at + 1) false ≡ stands v next false → Same (spelling k v) (b ∷ s) at next
same-one k b s at v next h e =
    let r = stands-is b (at + 1) v next false false e in
    rw (spelling-end k v (omega arith)) (record { bytes = ap (λ (x : ℕ). x ∷ s) (sym r.0); ends = r.1 })

same_at : (k : ℕ) (s : List ℕ) (at v next : ℕ) → AreBytes s → spelt k s at ≡ stands v next false → Same (spelling k v) s at next
unfolding spelt
same_at k [] at v next a e = let z : ◌≡◌ {A = ℕ} 0 1 = cc in absurd (omega arith)
same_at zero (b ∷ s) at v next a e = go (ltb b 2) refl e
  where
    go : (t : Bool) → ltb b 2 ≡ t → pick t (stands b (at + 1) false) None ≡ stands v next false → Same (spelling zero v) (b ∷ s) at next
    go true l q = same-one zero b s at v next (let h = ltb-true b 2 l in omega arith) q
    go false l q = let z : ◌≡◌ {A = ℕ} 0 1 = cc in absurd (omega arith)
same_at (suc k) (b ∷ s) at v next a e = go (ltb b 128) refl (λ x m. same_at k s (at + 1) x m a.1) e
  where
    go : (t : Bool) → ltb b 128 ≡ t → ((x m : ℕ) → spelt k s (at + 1) ≡ stands x m false → Same (spelling k x) s (at + 1) m)
        → pick t (stands b (at + 1) false) (more b (spelt k s (at + 1))) ≡ stands v next false → Same (spelling (suc k) v) (b ∷ s) at next
    go true l ih q = same-one (suc k) b s at v next (ltb-true b 128 l) q
    go false l ih q = same_more k b s at v next (spelt k s (at + 1)) (ltb-false b 128 l) a.0 ih q

pub same : NumberUnchanged
unfolding varint_at varint
same s at v next a e =
    let w = same_at 9 (drop at s) at v next (bytes_drop at s a) e in
    rw (drop-drop (length (spelling 9 v)) at s, w.ends) at w.bytes

-- a stretch that has an end has its length, and lies in the slice
stretch-long : (len at n end : ℕ) → stretch len at n ≡ Some end → (at + n ≡ end) × (end ≤ len)
stretch-long len at n end e = go (fits len at n) refl
  where
    go : (t : Bool) → fits len at n ≡ t → (at + n ≡ end) × (end ≤ len)
    go true f =
        let g : at + n ≡ end = cc (stretch-to len at n f) in
        let h = room len at n refl f in
        (g, omega arith)
    go false f = let z : ◌≡◌ {A = ℕ} 0 1 = cc (stretch-outside len at n f) in absurd (omega arith)

-- bytes behind their length: where the number of them stands
pub record Behind (s : List ℕ) (at start end : ℕ) (p : Bool) : Type 0 where
  pub count : ℕ
  pub number : varint_at s at ≡ stands count start p
  pub ends : start + count ≡ end
  pub fits : end ≤ length s

pub delimited-behind : (s : List ℕ) (at start end : ℕ) (p : Bool) → delimited_at s at ≡ encloses start end p → Behind s at start end p
unfolding delimited_at of_length of_stretch
delimited-behind s at start end p e = go (varint_at s at) refl e
  where
    held : (mid n : ℕ) (o : Bool) (t : Option ℕ) → varint_at s at ≡ stands n mid o → stretch (length s) mid n ≡ t → of_stretch mid o t ≡ encloses start end p → Behind s at start end p
    held mid n o (Some x) l k q =
        let d = encloses-is mid x start end o p q in
        let f = d.0 in
        let g = d.1 in
        let r = d.2 in
        let h = stretch-long (length s) mid n x k in
        record { count = n; number = l ∙ ap₂ (stands n) f r; ends = omega arith; fits = omega arith }
    held mid n o None l k q = let z : ◌≡◌ {A = ℕ} 0 1 = cc in absurd (omega arith)

    go : (v : Option Varint) → varint_at s at ≡ v → of_length s v ≡ encloses start end p → Behind s at start end p
    go (Some x) l q = held x.next x.value x.padded (stretch (length s) x.next x.value) l refl q
    go None l q = let z : ◌≡◌ {A = ℕ} 0 1 = cc in absurd (omega arith)

-- where their length is not padded they stand as they are written
pub delimited-same : (s : List ℕ) (at start end : ℕ) → AreBytes s → delimited_at s at ≡ encloses start end false
    → varint (length (take (end - start) (drop start s))) ++ (take (end - start) (drop start s) ++ drop end s) ≡ drop at s
delimited-same s at start end a e =
    let b = delimited-behind s at start end false e in
    let h = b.ends in
    let m = length-drop start s in
    let n : length (take (end - start) (drop start s)) ≡ b.count = length-take (end - start) (drop start s) ∙ omega (arith, b.fits) in
    let k : start + (end - start) ≡ end = omega arith in
    let r : drop (end - start) (drop start s) ≡ drop end s = drop-drop (end - start) start s ∙ ap (λ (x : ℕ). drop x s) k in
    rw (n, ← r, take-append-drop (end - start) (drop start s)) (same s at b.count start a b.number)
