-- Laws of puts, for feeds of blocks in any order: what a put keeps, what it writes, and that puts which agree commute.
use Rattle.std.proofs.Common.{◌≡◌, ℕ, ◌*◌, ◌<◌, Bool, true, false, eqb, ltb, List, length, take, drop, sym, refl, ap, ◌∙◌, subst, true≢false, arith, ltb-false, ltb-true, eqb-true}
use borrow.Author.Tests.{eqb-false}
use lib.Seq.{sets, length-sets}
use Rattle.buffer.proofs.Tests.{split}
use Rattle.csmp.specs.declared.Image.{Image}
use Rattle.transfer.specs.Bitmap.{held, marked, one_more, with_held}
use Rattle.transfer.specs.Block.{fits_at, Flash, put_block, Sound}
use Rattle.transfer.proofs.BlockLaws.{fits_told, put-unfit, put-held, put-new}
use Rattle.transfer.proofs.Counts.{counted-put}
use Rattle.transfer.proofs.Lengths.{block_inside, lower-before}
use Rattle.transfer.proofs.Marks.{length_marked, held-marked, held-other, marked-swap}
use Rattle.transfer.proofs.Stores.{sets-swap, take-sets}

-- a put into a state
abbrev pub put : ℕ → List ℕ → Flash → Flash
put n d f = put_block f.image f.bytes n d

-- another bitmap is nothing to what fits
fits-mapped : (i : Image) (map : List ℕ) (k n len : ℕ) → fits_at (with_held i map k) n len ≡ fits_at i n len
unfolding fits_at
fits-mapped i map k n len = refl

module _ (i : Image) (bs : List ℕ) (n : ℕ) (d : List ℕ) where
  -- a put changes nothing, or marks a block that fits and is missing, and writes it
  pub put-cases : (P : Flash → Type 0) → P (record { image = i; bytes = bs })
      → (fits_at i n (length d) ≡ true → held i.bitmap n ≡ false
      → P (record { image = with_held i (marked i.bitmap n) (one_more i.held); bytes = sets bs (n * i.block_size) d })) → P (put_block i bs n d)
  put-cases P same new = go (fits_at i n (length d)) refl (held i.bitmap n) refl
    where
      go : (t : Bool) → fits_at i n (length d) ≡ t → (u : Bool) → held i.bitmap n ≡ u → P (put_block i bs n d)
      go false h u g = subst P (sym (put-unfit i bs n d h)) same
      go true h true g = subst P (sym (put-held i bs n d g)) same
      go true h false g = subst P (sym (put-new i bs n d h g)) (new h g)

  -- of the image only the bitmap and its number change
  pub put-hash : (put_block i bs n d).image.hash ≡ i.hash
  put-hash = put-cases (λ (f : Flash). f.image.hash ≡ i.hash) refl (λ h g. refl)

  pub put-size : (put_block i bs n d).image.size ≡ i.size
  put-size = put-cases (λ (f : Flash). f.image.size ≡ i.size) refl (λ h g. refl)

  pub put-block-size : (put_block i bs n d).image.block_size ≡ i.block_size
  put-block-size = put-cases (λ (f : Flash). f.image.block_size ≡ i.block_size) refl (λ h g. refl)

  -- what fits still does, and what is held still is
  pub put-fits : (m len : ℕ) → fits_at (put_block i bs n d).image m len ≡ fits_at i m len
  unfolding fits_at
  put-fits m len = rw (put-size, put-block-size)

  pub held_stays : (m : ℕ) → held i.bitmap m ≡ true → held (put_block i bs n d).image.bitmap m ≡ true
  held_stays m k =
      put-cases (λ (f : Flash). held f.image.bitmap m ≡ true) k
      (λ h g. held-other i.bitmap m n (λ e. true≢false (sym k ∙ ap (held i.bitmap) e ∙ g)) ∙ k)

  -- the buffer keeps its length
  pub put-length : length (put_block i bs n d).bytes ≡ length bs
  put-length = put-cases (λ (f : Flash). length f.bytes ≡ length bs) refl (λ h g. length-sets bs (n * i.block_size) d)

  module _ (s : Sound i bs) where
    pub sound-put : Sound (put_block i bs n d).image (put_block i bs n d).bytes
    sound-put =
        put-cases (λ (f : Flash). Sound f.image f.bytes) s
        (λ h g. record {
          blocked = s.blocked;
          numbered = s.numbered;
          room = rw (length-sets bs (n * i.block_size) d) s.room;
          mapped = length_marked i.bitmap n ∙ s.mapped;
          counted = counted-put i n (length d) s.counted s.numbered s.mapped h g;
        })

    module _ (h : fits_at i n (length d) ≡ true) where
      -- a block that fits is held after its put
      pub put_holds : held (put_block i bs n d).image.bitmap n ≡ true
      put_holds =
          split (held i.bitmap n) (held_stays n)
          (λ g. rw (put-new i bs n d h g) (held-marked i.bitmap n (let t = fits_told i n (length d) h in let m = s.numbered in omega arith) s.mapped))

      -- a block that fits and was missing stands in its stretch
      pub put-inside : held i.bitmap n ≡ false → take (length d) (drop (n * i.block_size) (put_block i bs n d).bytes) ≡ d
      put-inside g =
          let t = fits_told i n (length d) h in
          let b = block_inside i.size i.block_size n t.0 in
          let r = s.room in
          rw (put-new i bs n d h g) (take-sets d bs (n * i.block_size) (omega arith))

-- two puts, in either order
abbrev pub Commute : Image → List ℕ → ℕ → List ℕ → ℕ → List ℕ → Type 0
Commute i bs m d n e = put n e (put_block i bs m d) ≡ put m d (put_block i bs n e)

-- two puts agree if they do not offer two contents of one missing block
abbrev pub Agree : Image → ℕ → List ℕ → ℕ → List ℕ → Type 0
Agree i m d n e = m ≡ n → held i.bitmap m ≡ false → fits_at i m (length d) ≡ true → fits_at i n (length e) ≡ true → d ≡ e

module _ (i : Image) (m : ℕ) (d : List ℕ) (n : ℕ) (e : List ℕ) where
  module _ (bs : List ℕ) where
    -- a put keeps agreement
    pub agree-put : (k : ℕ) (b : List ℕ) → Agree i m d n e → Agree (put_block i bs k b).image m d n e
    agree-put k b a p h f g =
        a p (split (held i.bitmap m) (λ t. absurd (true≢false (sym (held_stays i bs k b m t) ∙ h))) (λ t. t))
        (sym (put-fits i bs k b m (length d)) ∙ f) (sym (put-fits i bs k b n (length e)) ∙ g)

    -- a put that changes nothing, before and after another
    swap-unfit : fits_at i m (length d) ≡ false → Commute i bs m d n e
    swap-unfit h =
        let f = put_block i bs n e in
        ap (put n e) (put-unfit i bs m d h) ∙ sym (put-unfit f.image f.bytes m d (put-fits i bs n e m (length d) ∙ h))

    swap-held : held i.bitmap m ≡ true → Commute i bs m d n e
    swap-held h =
        let f = put_block i bs n e in
        ap (put n e) (put-held i bs m d h) ∙ sym (put-held f.image f.bytes m d (held_stays i bs n e m h))

    swap-same : m ≡ n → d ≡ e → Commute i bs m d n e
    swap-same p q = rw (p, q)

    module _ (f : fits_at i m (length d) ≡ true) (g : fits_at i n (length e) ≡ true) where
      -- the stretches of two numbers lie apart
      apart : m < n → sets (sets bs (m * i.block_size) d) (n * i.block_size) e ≡ sets (sets bs (n * i.block_size) e) (m * i.block_size) d
      apart l =
          let s = fits_told i m (length d) f in
          let t = fits_told i n (length e) g in
          let b = lower-before i.size i.block_size n t.0 m l in
          sets-swap d e bs (m * i.block_size) (n * i.block_size) (omega arith)

      -- two puts of missing blocks
      both-new : (m ≡ n → ⊥) → held i.bitmap m ≡ false → held i.bitmap n ≡ false
          → put n e (put_block i bs m d)
          ≡ record { image = with_held i (marked (marked i.bitmap m) n) (one_more (one_more i.held)); bytes = sets (sets bs (m * i.block_size) d) (n * i.block_size) e }
      both-new o h k =
          let map = marked i.bitmap m in
          ap (put n e) (put-new i bs m d f h)
          ∙ put-new (with_held i map (one_more i.held)) (sets bs (m * i.block_size) d) n e (fits-mapped i map (one_more i.held) n (length e) ∙ g)
          (held-other i.bitmap n m (λ p. o (sym p)) ∙ k)

module _ (i : Image) (bs : List ℕ) where
  swap-lower : (m : ℕ) (d : List ℕ) (n : ℕ) (e : List ℕ) → fits_at i m (length d) ≡ true → fits_at i n (length e) ≡ true
      → held i.bitmap m ≡ false → held i.bitmap n ≡ false → m < n → Commute i bs m d n e
  swap-lower m d n e f g h k l =
      both-new i m d n e bs f g (λ p. omega arith) h k
      ∙ (rw (marked-swap i.bitmap m n, apart i m d n e bs f g l))
      ∙ sym (both-new i n e m d bs g f (λ p. omega arith) k h)

  swap-new : (m : ℕ) (d : List ℕ) (n : ℕ) (e : List ℕ) → fits_at i m (length d) ≡ true → fits_at i n (length e) ≡ true
      → held i.bitmap m ≡ false → held i.bitmap n ≡ false → (m ≡ n → d ≡ e) → Commute i bs m d n e
  swap-new m d n e f g h k a = go (eqb m n) refl (ltb m n) refl
    where
      go : (t : Bool) → eqb m n ≡ t → (u : Bool) → ltb m n ≡ u → Commute i bs m d n e
      go true p u q = swap-same i m d n e bs (eqb-true m n p) (a (eqb-true m n p))
      go false p true q = swap-lower m d n e f g h k (ltb-true m n q)
      go false p false q = sym (swap-lower n e m d g f k h (let x = eqb-false m n p in let y = ltb-false m n q in omega arith))

  -- puts that agree commute
  pub put-swap : (m : ℕ) (d : List ℕ) (n : ℕ) (e : List ℕ) → Agree i m d n e → Commute i bs m d n e
  put-swap m d n e a = go (fits_at i m (length d)) refl (fits_at i n (length e)) refl (held i.bitmap m) refl (held i.bitmap n) refl
    where
      go : (t : Bool) → fits_at i m (length d) ≡ t → (u : Bool) → fits_at i n (length e) ≡ u
          → (v : Bool) → held i.bitmap m ≡ v → (w : Bool) → held i.bitmap n ≡ w → Commute i bs m d n e
      go false f u g v h w k = swap-unfit i m d n e bs f
      go true f false g v h w k = sym (swap-unfit i n e m d bs g)
      go true f true g true h w k = swap-held i m d n e bs h
      go true f true g false h true k = sym (swap-held i n e m d bs k)
      go true f true g false h false k = swap-new m d n e f g h k (λ p. a p h f g)
