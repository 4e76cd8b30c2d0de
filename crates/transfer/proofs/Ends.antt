-- What blocks put one after the other leave.
use Rattle.std.specs.Prelude.{None, Option, Some}
use Rattle.std.proofs.Common.{◌≡◌, ℕ, zero, suc, ◌+◌, ◌*◌, ◌<◌, ◌≤◌, Bool, true, false, ◌&&◌, ◌||◌, eqb, ltb, List, [], ◌∷◌, length, take, drop, sym, refl, ap, ◌∙◌, subst, true≢false, mul-le-mul_right, suc-mul, arith, ltb-false, ltb-true, eq-eqb, eqb-true}
use borrow.Author.Tests.{eqb-false}
use lib.Seq.{sets}
use Rattle.buffer.proofs.Tests.{split, both}
use Rattle.buffer.specs.Pick.{pick}
use Rattle.csmp.specs.declared.Image.{Image}
use Rattle.transfer.specs.Bitmap.{held, all_held, none_missing, complete, Counted, with_held}
use Rattle.transfer.specs.Block.{fits_at, Flash, Offer, put_block, Sound}
use Rattle.transfer.specs.Blocks.{blocks, block_length}
use Rattle.transfer.specs.Merge.{put_all, block_at, came, is_some, Ended, Ends}
use Rattle.transfer.proofs.BlockLaws.{fits_told}
use Rattle.transfer.proofs.Counts.{compares}
use Rattle.transfer.proofs.Lengths.{length_most, block_inside, lower-before}
use Rattle.transfer.proofs.Marks.{held-other}
use Rattle.transfer.proofs.Puts.{put-cases, put-size, put-block-size, put-fits, put-length, sound-put, put_holds, put-inside}
use Rattle.transfer.proofs.Stores.{drop-sets, stretch-sets}

-- all are held exactly when each is
all-each : (map : List ℕ) (n : ℕ) → all_held n map ≡ true → (m : ℕ) → m < n → held map m ≡ true
unfolding all_held
all-each map zero h m l = absurd (omega arith)
all-each map (suc n) h m l =
    split (held map n)
    (λ e. split (eqb m n) (λ q. ap (held map) (eqb-true m n q) ∙ e)
    (λ q. all-each map n (sym (ap (λ (t : Bool). pick t (all_held n map) false) e) ∙ h) m (let x = eqb-false m n q in omega arith)))
    (λ e. absurd (true≢false (sym h ∙ ap (λ (t : Bool). pick t (all_held n map) false) e)))

each_all : (map : List ℕ) (n : ℕ) → ((m : ℕ) → m < n → held map m ≡ true) → all_held n map ≡ true
unfolding all_held
each_all map zero h = refl
each_all map (suc n) h = rw (h n (omega arith)) (each_all map n (λ m l. h m (omega arith)))

-- one block of a feed: it is of this number and fits, or it is nothing to the number
module _ (i : Image) (m : ℕ) (o : Offer) where
  abbrev Not : Type 0
  Not = fits_at i o.number (length o.bytes) ≡ true → m ≡ o.number → ⊥

  this : {X : Type 0} → (m ≡ o.number → fits_at i o.number (length o.bytes) ≡ true → X) → (Not → X) → X
  this f g =
      split (fits_at i o.number (length o.bytes))
      (λ h. split (eqb m o.number) (λ e. f (eqb-true m o.number e) h) (λ e. g (λ k p. eqb-false m o.number e p)))
      (λ h. g (λ k p. true≢false (sym k ∙ h)))

  came-this : (os : List Offer) → m ≡ o.number → fits_at i o.number (length o.bytes) ≡ true → came i m (o ∷ os) ≡ Some o.bytes
  unfolding came
  came-this os e h = rw (e, eq-eqb o.number o.number refl, h)

  came-not : (os : List Offer) → Not → came i m (o ∷ os) ≡ came i m os
  unfolding came
  came-not os k =
      split (eqb o.number m && fits_at i m (length o.bytes))
      (λ e. let t = both (eqb o.number m) (fits_at i m (length o.bytes)) e in
      let p = eqb-true o.number m t.0 in absurd (k (rw p t.1) (sym p)))
      (λ e. rw e)

-- one put
module _ (i : Image) (bs : List ℕ) (n : ℕ) (d : List ℕ) where
  -- the stretches of two numbers lie apart
  apart : (m : ℕ) → fits_at i n (length d) ≡ true → (m ≡ n → ⊥) → block_at i (sets bs (n * i.block_size) d) m ≡ block_at i bs m
  apart m h k =
      let each = i.block_size in
      let t = fits_told i n (length d) h in
      split (ltb m n)
      (λ e. stretch-sets d bs (n * each) (m * each) (block_length i.size each m) (lower-before i.size each n t.0 m (ltb-true m n e)))
      (λ e. ap (take (block_length i.size each m))
      (drop-sets d bs (n * each) (m * each) (behind each t.1 (let l = ltb-false m n e in omega (arith, k)))))
    where
      behind : (each : ℕ) → length d ≡ block_length i.size each n → n < m → n * each + length d ≤ m * each
      behind each q l =
          let a = length_most i.size each n in
          let p = mul-le-mul_right {m = suc n} {n = m} each l in
          let e : suc n * each ≡ n * each + each = suc-mul n each in
          omega arith

  -- what a put does not bring is as it was
  put_other : (m : ℕ) → (fits_at i n (length d) ≡ true → m ≡ n → ⊥)
      → (held (put_block i bs n d).image.bitmap m ≡ held i.bitmap m) × (block_at i (put_block i bs n d).bytes m ≡ block_at i bs m)
  put_other m k =
      put-cases i bs n d (λ (f : Flash). (held f.image.bitmap m ≡ held i.bitmap m) × (block_at i f.bytes m ≡ block_at i bs m))
      (refl, refl) (λ h g. (held-other i.bitmap m n (k h), apart m h (k h)))

  put-kept : (m : ℕ) → held i.bitmap m ≡ true
      → (held (put_block i bs n d).image.bitmap m ≡ true) × (block_at i (put_block i bs n d).bytes m ≡ block_at i bs m)
  put-kept m k =
      put-cases i bs n d (λ (f : Flash). (held f.image.bitmap m ≡ true) × (block_at i f.bytes m ≡ block_at i bs m))
      (k, refl)
      (λ h g. let o : m ≡ n → ⊥ = λ e. true≢false (sym k ∙ ap (held i.bitmap) e ∙ g) in (held-other i.bitmap m n o ∙ k, apart m h o))

  put-brings : Sound i bs → held i.bitmap n ≡ false → fits_at i n (length d) ≡ true
      → (held (put_block i bs n d).image.bitmap n ≡ true) × (block_at i (put_block i bs n d).bytes n ≡ d)
  put-brings s g h =
      (put_holds i bs n d s h, ap (λ (k : ℕ). take k (drop (n * i.block_size) (put_block i bs n d).bytes)) (sym (fits_told i n (length d) h).1) ∙ put-inside i bs n d s h g)

  put-image : (put_block i bs n d).image ≡ with_held i (put_block i bs n d).image.bitmap (put_block i bs n d).image.held
  put-image = put-cases i bs n d (λ (f : Flash). f.image ≡ with_held i f.image.bitmap f.image.held) refl (λ h g. refl)

  put-behind : drop i.size (put_block i bs n d).bytes ≡ drop i.size bs
  put-behind =
      put-cases i bs n d (λ (f : Flash). drop i.size f.bytes ≡ drop i.size bs) refl
      (λ h g. let t = fits_told i n (length d) h in
      let b = block_inside i.size i.block_size n t.0 in
      drop-sets d bs (n * i.block_size) i.size (omega arith))

  -- it is the same blocks after it
  put-block : (xs : List ℕ) (m : ℕ) → block_at (put_block i bs n d).image xs m ≡ block_at i xs m
  put-block xs m = rw (put-size i bs n d, put-block-size i bs n d)

  put-came : (m : ℕ) (os : List Offer) → came (put_block i bs n d).image m os ≡ came i m os
  unfolding came
  put-came m [] = refl
  put-came m (o ∷ os) = rw (put-fits i bs n d m (length o.bytes), put-came m os)

-- the end, but for the number and completeness
record Parts (f : Flash) (os : List Offer) (e : Flash) : Type 0 where
  kept : (n : ℕ) → held f.image.bitmap n ≡ true
      → (held e.image.bitmap n ≡ true) × (block_at f.image e.bytes n ≡ block_at f.image f.bytes n)
  new : (n : ℕ) (bs : List ℕ) → held f.image.bitmap n ≡ false → came f.image n os ≡ Some bs
      → (held e.image.bitmap n ≡ true) × (block_at f.image e.bytes n ≡ bs)
  missing : (n : ℕ) → held f.image.bitmap n ≡ false → came f.image n os ≡ None
      → (held e.image.bitmap n ≡ false) × (block_at f.image e.bytes n ≡ block_at f.image f.bytes n)
  image : e.image ≡ with_held f.image e.image.bitmap e.image.held
  behind : drop f.image.size e.bytes ≡ drop f.image.size f.bytes
  long : length e.bytes ≡ length f.bytes

parts_none : (f : Flash) → Parts f [] f
unfolding came
parts_none f =
    record {
      kept = λ n h. (h, refl);
      new = λ n bs h c. let z : ◌≡◌ {A = ℕ} 0 1 = cc in absurd (omega arith);
      missing = λ n h c. (h, refl);
      image = refl;
      behind = refl;
      long = refl;
    }

-- a put, and then the others
parts_more : (f : Flash) (o : Offer) (os : List Offer) (e : Flash) → Sound f.image f.bytes
    → Parts (put_block f.image f.bytes o.number o.bytes) os e → Parts f (o ∷ os) e
parts_more f o os e s r = record { kept = kept; new = new; missing = missing; image = image; behind = behind; long = r.long ∙ put-length i f.bytes n d }
  where
    i : Image
    i = f.image

    n : ℕ
    n = o.number

    d : List ℕ
    d = o.bytes

    g : Flash
    g = put_block i f.bytes n d

    -- block m is in the end what it was after the put
    to : (m : ℕ) (xs : List ℕ) → block_at g.image e.bytes m ≡ xs → block_at i e.bytes m ≡ xs
    to m xs h = sym (put-block i f.bytes n d e.bytes m) ∙ h

    through : (m : ℕ) → block_at g.image e.bytes m ≡ block_at g.image g.bytes m → block_at i e.bytes m ≡ block_at i g.bytes m
    through m h = to m (block_at i g.bytes m) (h ∙ put-block i f.bytes n d g.bytes m)

    kept : (m : ℕ) → held i.bitmap m ≡ true → (held e.image.bitmap m ≡ true) × (block_at i e.bytes m ≡ block_at i f.bytes m)
    kept m h =
        let p = put-kept i f.bytes n d m h in
        let q = r.kept m p.0 in
        (q.0, through m q.1 ∙ p.1)

    brought : (m : ℕ) (bs : List ℕ) → held i.bitmap m ≡ false → came i m (o ∷ os) ≡ Some bs → m ≡ n → fits_at i n (length d) ≡ true
        → (held e.image.bitmap m ≡ true) × (block_at i e.bytes m ≡ bs)
    brought m bs h c w t =
        let y = sym (came-this i m o os w t) ∙ c in
        let b : d ≡ bs = cc in
        let p = put-brings i f.bytes n d s (rw (← w) h) t in
        let q = r.kept m (rw w p.0) in
        (q.0, through m q.1 ∙ ap (block_at i g.bytes) w ∙ p.1 ∙ b)

    new : (m : ℕ) (bs : List ℕ) → held i.bitmap m ≡ false → came i m (o ∷ os) ≡ Some bs
        → (held e.image.bitmap m ≡ true) × (block_at i e.bytes m ≡ bs)
    new m bs h c =
        this i m o (brought m bs h c)
        (λ k. let p = put_other i f.bytes n d m k in
        let q = r.new m bs (p.0 ∙ h) (put-came i f.bytes n d m os ∙ sym (came-not i m o os k) ∙ c) in
        (q.0, to m bs q.1))

    missing : (m : ℕ) → held i.bitmap m ≡ false → came i m (o ∷ os) ≡ None
        → (held e.image.bitmap m ≡ false) × (block_at i e.bytes m ≡ block_at i f.bytes m)
    missing m h c =
        this i m o (λ w t. let y = sym (came-this i m o os w t) ∙ c in let z : ◌≡◌ {A = ℕ} 0 1 = cc in absurd (omega arith))
        (λ k. let p = put_other i f.bytes n d m k in
        let q = r.missing m (p.0 ∙ h) (put-came i f.bytes n d m os ∙ sym (came-not i m o os k) ∙ c) in
        (q.0, through m q.1 ∙ p.1))

    image : e.image ≡ with_held i e.image.bitmap e.image.held
    image = r.image ∙ ap (λ (x : Image). with_held x e.image.bitmap e.image.held) (put-image i f.bytes n d)

    behind : drop i.size e.bytes ≡ drop i.size f.bytes
    behind = subst (λ (k : ℕ). drop k e.bytes ≡ drop k g.bytes) (put-size i f.bytes n d) r.behind ∙ put-behind i f.bytes n d

parts : (f : Flash) (os : List Offer) → Sound f.image f.bytes → Parts f os (put_all os f)
unfolding put_all
parts f [] s = parts_none f
parts f (o ∷ os) s =
    let g = put_block f.image f.bytes o.number o.bytes in
    parts_more f o os (put_all os g) s (parts g os (sound-put f.image f.bytes o.number o.bytes s))

sound-all : (f : Flash) (os : List Offer) → Sound f.image f.bytes → Sound (put_all os f).image (put_all os f).bytes
unfolding put_all
sound-all f [] s = s
sound-all f (o ∷ os) s =
    sound-all (put_block f.image f.bytes o.number o.bytes) os (sound-put f.image f.bytes o.number o.bytes s)

-- whether a block came
cases : {X : Type 0} {A : Type 0} (c : Option A) → (c ≡ None → X) → ((a : A) → c ≡ Some a → X) → X
cases None f g = f refl
cases (Some a) f g = g a refl

-- complete exactly when every number was held or came
module _ (f : Flash) (os : List Offer) (e : Flash) (c : Counted e.image) (r : Parts f os e) where
  abbrev Had : ℕ → Type 0
  Had n = (held f.image.bitmap n || is_some (came f.image n os)) ≡ true

  had-held : (n : ℕ) → held e.image.bitmap n ≡ true → Had n
  had-held n h =
      split (held f.image.bitmap n) (λ k. rw k)
      (λ k. cases (came f.image n os) (λ c. absurd (true≢false (sym h ∙ (r.missing n k c).0))) (λ bs c. rw (k, c)))

  held-had : (n : ℕ) → Had n → held e.image.bitmap n ≡ true
  held-had n h =
      split (held f.image.bitmap n) (λ k. (r.kept n k).0)
      (λ k. cases (came f.image n os) (λ c. let z : false ≡ true = rw (k, c) at h in absurd (true≢false (sym z))) (λ bs c. (r.new n bs k c).0))

  whole : complete e.image ≡ all_held (blocks f.image.size f.image.block_size) e.image.bitmap
  unfolding none_missing
  whole = compares e.image c ∙ ap none_missing r.image

  ended : Ended f os e
  ended =
      let map = e.image.bitmap in
      let count = blocks f.image.size f.image.block_size in
      record {
        kept = r.kept;
        new = r.new;
        missing = r.missing;
        number = c.number;
        image = r.image;
        behind = r.behind;
        long = r.long;
        done = λ t n l. had-held n (all-each map count (sym whole ∙ t) n l);
        enough = λ h. whole ∙ each_all map count (λ n l. held-had n (h n l));
      }

-- no blocks leave what was
pub ends-none : (f : Flash) → Counted f.image → Ended f [] f
ends-none f c = ended f [] f c (parts_none f)

pub ends : Ends
ends f os s = ended f os (put_all os f) (sound-all f os s).counted (parts f os s)
