-- Laws of the bytes of the answers that wait: keeping one stores its own, and leaves those of the others.
use Prim.Native.Nat.{ℕ, suc, ◌+◌, ◌-◌, ◌≤◌, ◌<◌}
use mathlib.Core.Path.{◌≡◌, refl, sym, ap, ◌∙◌}
use mathlib.Core.List.{List, [], ◌∷◌, ◌++◌, append_assoc}
use mathlib.Core.Bool.{false}
use native.Mathlib.Omega.{arith}
use borrow.Author.Tests.{leb-true, leb-false}
use lib.Dec.{leb}
use lib.ListN.{length, take, drop, set}
use lib.Seq.{sets, sets-eq, get_or-set_same, get_or-set_other, take-set-le, drop-set-lt, drop-set-add, drop_at, length-take-le, take-append_seam}
use Rattle.buffer.proofs.Puts.{length-placed}
use Rattle.buffer.proofs.Stretches.{fits-true}
use Rattle.buffer.proofs.Tests.{split, pick-both}
use Rattle.buffer.specs.Put.{placed}
use Rattle.buffer.specs.Stretch.{fits}
use Rattle.schedule.specs.declared.Length.{Length}
use Rattle.schedule.specs.declared.Point.{Point}
use Rattle.state.specs.Setup.{free_at}
use Rattle.state.specs.Waiting.{place_at}
use Rattle.state.specs.declared.Delayed.{Delayed}
use Rattle.state.specs.declared.Waiting.{Waiting}
use Rattle.state.specs.declared.What.{What}
use Rattle.waiting.specs.Sized.{WaitingSized}
use Rattle.waiting.specs.Waiting.{is_full, url_at, held_at, url_in, held_in, kept, kept_bytes}
use Rattle.waiting.proofs.Laws.{slot-one, kept-one, bytes_one}

-- what lies behind stores is as it was, and a stretch before them
behind-sets : (vs l : List ℕ) (i k : ℕ) → i + length vs ≤ k → drop k (sets l i vs) ≡ drop k l
behind-sets [] l i k h = refl
behind-sets (a ∷ vs) l i k h = behind-sets vs (set l i a) (suc i) k (omega arith) ∙ drop-set-lt k l i a (omega arith)

before-set : (l : List ℕ) (i k n a : ℕ) → k + n ≤ i → take n (drop k (set l i a)) ≡ take n (drop k l)
before-set l i k n a h =
    let e : i ≡ k + (i - k) = omega arith in
    ap (λ (j : ℕ). take n (drop k (set l j a))) e ∙ ap (take n) (drop-set-add k l (i - k) a) ∙ take-set-le n (drop k l) (i - k) a (omega arith)

before-sets : (vs l : List ℕ) (i k n : ℕ) → k + n ≤ i → take n (drop k (sets l i vs)) ≡ take n (drop k l)
before-sets [] l i k n h = refl
before-sets (a ∷ vs) l i k n h = before-sets vs (set l i a) (suc i) k n (omega arith) ∙ before-set l i k n a h

module _ (out : List ℕ) (at : ℕ) (bs : List ℕ) where
  -- what is placed stands there
  placed-there : at + length bs ≤ length out → take (length bs) (drop at (placed out at bs)) ≡ bs
  unfolding placed
  placed-there h =
      rw (
        fits-true (length out) at (length bs) h,
        sets-eq bs out at h,
        append_assoc (take at out) bs (drop (at + length bs) out),
        drop_at (take at out) (bs ++ drop (at + length bs) out) at (length-take-le at out (omega arith)),
      )
      (take-append_seam bs (drop (at + length bs) out))

  -- a stretch apart from it is as it was
  placed-apart : (k n : ℕ) → (at < k + n → at + length bs ≤ k) → take n (drop k (placed out at bs)) ≡ take n (drop k out)
  unfolding placed
  placed-apart k n h =
      pick-both (λ l. take n (drop k l) ≡ take n (drop k out)) (fits (length out) at (length bs)) _ _
      (λ t. split (leb (k + n) at) (λ e. before-sets bs out at k n (leb-true (k + n) at e))
      (λ e. ap (take n) (behind-sets bs out at k (h (leb-false (k + n) at e)))))
      (λ t. refl)

-- the bytes of one slot
module _ (answers : List ℕ) (slot : ℕ) (url held : List ℕ) where
  abbrev stored : List ℕ
  stored = placed (placed answers (url_at slot) url) (held_at slot) held

  stored-length : length stored ≡ length answers
  stored-length = length-placed (placed answers (url_at slot) url) (held_at slot) held ∙ length-placed answers (url_at slot) url

  module _ (h : slot < 4) (u : length url ≤ 128) (v : length held ≤ 1056) where
    module _ (l : length answers ≡ 4736) where
      stored-url : take (length url) (drop (url_at slot) stored) ≡ url
      unfolding held_at
      stored-url =
          placed-apart (placed answers (url_at slot) url) (held_at slot) held (url_at slot) (length url) (λ g. absurd (omega arith))
          ∙ placed-there answers (url_at slot) url (let e = slot-one slot h in omega arith)

      stored-held : take (length held) (drop (held_at slot) stored) ≡ held
      unfolding held_at
      stored-held =
          placed-there (placed answers (url_at slot) url) (held_at slot) held
          (let e = slot-one slot h in let k = length-placed answers (url_at slot) url in omega arith)

    -- those of another are as they were
    module _ (other : ℕ) (g : other < 4) (d : other ≡ slot → ⊥) where
      other-stretch : (k n : ℕ) → url_at other ≤ k → k + n ≤ url_at other + 1184 → take n (drop k stored) ≡ take n (drop k answers)
      unfolding held_at
      other-stretch k n a b =
          let e = slot-one slot h in
          let f = slot-one other g in
          placed-apart (placed answers (url_at slot) url) (held_at slot) held k n (λ c. omega arith)
          ∙ placed-apart answers (url_at slot) url k n (λ c. omega arith)

      other-url : (n : ℕ) → n ≤ 128 → take n (drop (url_at other) stored) ≡ take n (drop (url_at other) answers)
      other-url n a = other-stretch (url_at other) n (omega arith) (omega arith)

      other-held : (n : ℕ) → n ≤ 1056 → take n (drop (held_at other) stored) ≡ take n (drop (held_at other) answers)
      unfolding held_at
      other-held n a = other-stretch (held_at other) n (omega arith) (omega arith)

-- the length of the lent buffer stays
pub kept-length : (w : Waiting) (answers url held : List ℕ) → length (kept_bytes w answers url held) ≡ length answers
unfolding kept_bytes
kept-length w answers url held =
    pick-both (λ (l : List ℕ). length l ≡ length answers) (is_full w) answers _ (λ t. refl)
    (λ t. stored-length answers (place_at w.list w.count).slot url held)

-- an answer is kept where a place is free
module _ (w : Waiting) (answers : List ℕ) (from : Point) (wait : Length) (what : What) (url held : List ℕ)
    (s : WaitingSized w) (f : is_full w ≡ false) where
  abbrev n : ℕ
  n = w.count

  abbrev slot : ℕ
  slot = (place_at w.list n).slot

  abbrev new : Delayed
  new = record { from = from; wait = wait; what = what; url = length url; held = length held; slot = slot }

  free : n < 4
  unfolding is_full
  free = leb-false 4 n f

  slot-free : slot < 4
  slot-free = (s.each n free).slot

  list-kept : (kept w from wait what url held).list ≡ set w.list n new
  list-kept = sym (ap (λ (x : Waiting). x.list) (kept-one w from wait what url held free))

  bytes-kept : kept_bytes w answers url held ≡ stored answers slot url held
  bytes-kept =
      sym
      (bytes_one w answers url held free (url_at slot) (held_at slot) (placed answers (url_at slot) url) (stored answers slot url held)
      refl refl refl refl)

  pub count_kept : (kept w from wait what url held).count ≡ w.count + 1
  count_kept = sym (ap (λ (x : Waiting). x.count) (kept-one w from wait what url held free))

  pub place-new : place_at (kept w from wait what url held).list n ≡ new
  place-new = rw list-kept (get_or-set_same w.list n new (free_at 0) (let z = s.list in let y = free in omega arith))

  module _ (l : length answers ≡ 4736) (u : length url ≤ 128) (v : length held ≤ 1056) where
    -- its bytes are there
    pub kept_new : (url_in (place_at (kept w from wait what url held).list w.count) (kept_bytes w answers url held) ≡ url)
        × (held_in (place_at (kept w from wait what url held).list w.count) (kept_bytes w answers url held) ≡ held)
    unfolding url_in held_in
    kept_new = (
      rw (place-new, bytes-kept) (stored-url answers slot url held slot-free u v l),
      rw (place-new, bytes-kept) (stored-held answers slot url held slot-free u v l),
    )

    -- the others stay, and so do their bytes
    pub kept-others : (i : ℕ) → i < w.count
        → (place_at (kept w from wait what url held).list i ≡ place_at w.list i)
        × (url_in (place_at w.list i) (kept_bytes w answers url held) ≡ url_in (place_at w.list i) answers)
        × (held_in (place_at w.list i) (kept_bytes w answers url held) ≡ held_in (place_at w.list i) answers)
    unfolding url_in held_in
    kept-others i h =
        let y = free in
        let d = place_at w.list i in
        let z = s.each i (omega arith) in
        let a = s.slots i n h free in (
          rw list-kept (get_or-set_other w.list n i new (free_at 0) (λ e. omega arith)),
          rw bytes-kept (other-url answers slot url held slot-free u v d.slot z.slot a d.url z.url),
          rw bytes-kept (other-held answers slot url held slot-free u v d.slot z.slot a d.held z.held),
        )
