-- A feed only puts blocks, and so moves nothing that its calls, or others, are judged by.
use Rattle.std.specs.Prelude.{None, Option, Some, Result, Ok, Err}
use Prim.Native.Nat.{ℕ}
use mathlib.Core.Path.{◌≡◌, refl, sym, ◌∙◌}
use mathlib.Core.List.{List, [], ◌∷◌, ◌++◌}
use mathlib.Core.Bool.{Bool, true, false, not, ◌&&◌, ◌||◌, and-false, true≢false}
use mathlib.Core.Logic.{◌⊎◌, inl, inr}
use native.Mathlib.Omega.{arith}
use borrow.Author.Tests.{eqb-true, eqb-false}
use lib.Dec.{eqb, ltb}
use lib.ListN.{length, drop}
use Rattle.buffer.proofs.Tests.{split, both, neither}
use Rattle.buffer.specs.Listed.{listed}
use Rattle.buffer.specs.Pick.{pick}
use Rattle.coap.specs.Frame.{frame_of}
use Rattle.coap.specs.declared.FrameError.{FrameError}
use Rattle.coap.specs.declared.FrameError.TheVariants.{Malformed, Foreign}
use Rattle.coap.specs.declared.Frame.{Frame}
use Rattle.csmp.specs.declared.Image.{Image}
use Rattle.decode.specs.Read.{redirect_of}
use Rattle.registration.specs.Redirect.{is_set, followed, follow, url_in, redirected}
use Rattle.decimal.specs.Ids.{held}
use Rattle.request.specs.Request.{request_of}
use Rattle.request.proofs.Judged.{post-asks}
use Rattle.request.specs.declared.Asks.{Asks}
use Rattle.request.specs.declared.Asks.TheVariants.{Error, Post, Index, Record, Records}
use Rattle.post.specs.Judge.{padded_in, Judgement}
use Rattle.run.specs.Post.{posted_as, judged_at, posted}
use Rattle.run.specs.Run.{ran, any_answered}
use Rattle.step.specs.Step.{World, with_flash, block_taken, act, is_request}
use Rattle.state.specs.declared.Device.{Device}
use Rattle.state.specs.declared.Registration.{Registration}
use Rattle.tlv.specs.Record.{Tlv, records}
use Rattle.transfer.specs.Block.{Flash, Offer, offered, put_block, take_block}
use Rattle.transfer.specs.Merge.{Merge, none as nothing, first, second, put_all}
use Rattle.transfer.proofs.Marks.{length_marked}
use Rattle.transfer.proofs.Puts.{put-cases, put-hash, put-length}
use Rattle.class.specs.Class.{is_request as is_method, class_of}
use Rattle.calls.specs.Datagram.{Call, Effect, Served, refusal, silent, world_in, with_world, post_in, served_post, served_as, served, replied, keeps, classed, received, datagram_of}
use Rattle.waiting.specs.Waiting.{is_full}
use Rattle.calls.proofs.Late.{Later, requested-by, silently}
use Rattle.feeds.specs.Feeds.{FeedsStand, MapStays}
use Rattle.calls.specs.Merge.{Kept, after, after_all, shut_out, runs_judged, runs_asked, runs_classed, runs_framed, runs, steers, any_steers, frames_post, feeds, Feed, with_offer, offers, brought, flash_of, kept_with}
use Rattle.class.specs.declared.Class.{Class}
use Rattle.class.specs.declared.Class.TheVariants.{Request, Acknowledgement, Rejected, Ignored}

-- blocks put after others
put-append : (xs ys : List Offer) (f : Flash) → put_all (xs ++ ys) f ≡ put_all ys (put_all xs f)
unfolding put_all
put-append [] ys f = refl
put-append (x ∷ xs) ys f = put-append xs ys (put_block f.image f.bytes x.number x.bytes)

puts-hash : (xs : List Offer) (f : Flash) → (put_all xs f).image.hash ≡ f.image.hash
unfolding put_all
puts-hash [] f = refl
puts-hash (x ∷ xs) f =
    puts-hash xs (put_block f.image f.bytes x.number x.bytes) ∙ put-hash f.image f.bytes x.number x.bytes

puts-length : (xs : List Offer) (f : Flash) → length (put_all xs f).bytes ≡ length f.bytes
unfolding put_all
puts-length [] f = refl
puts-length (x ∷ xs) f =
    puts-length xs (put_block f.image f.bytes x.number x.bytes) ∙ put-length f.image f.bytes x.number x.bytes

-- what is offered goes by the open hash
offered-by : (i j : Image) (v : List ℕ) → i.hash ≡ j.hash → offered i v ≡ offered j v
unfolding offered
offered-by i j v e = rw e

offers-by : (i j : Image) (ts : List Tlv) → i.hash ≡ j.hash → offers i ts ≡ offers j ts
unfolding offers
offers-by i j [] e = refl
offers-by i j (t ∷ ts) e = rw (offered-by i j t.value e, offers-by i j ts e)

-- an ignored redirect changes nothing
ignored : (d : Device) (r : Registration) (v : List ℕ) → followed (url_in v) ≡ false → redirected d r v ≡ r
unfolding redirected followed follow
ignored d r v h = go (url_in v) h (is_set (redirect_of v).immediate)
  where
    go : (u : Option (List ℕ)) → followed u ≡ false → (b : Bool) → follow d r u b ≡ r
    go None h b = refl
    go (Some []) h b = refl
    go (Some (x ∷ xs)) h b = let z : ◌≡◌ {A = ℕ} 0 1 = cc in absurd (omega arith)

-- a record that does not steer, other than a block, changes nothing
module _ (d : Device) (w : World) (t : Tlv) (h : steers t ≡ false) where
  skipped : eqb t.kind 67 ≡ false → act d w t.kind t.value ≡ w
  unfolding steers act
  skipped k =
      let h1 = (neither (eqb t.kind 65) _ h).1 in
      let h2 = (neither (eqb t.kind 68) _ h1).1 in
      let h3 = (neither (eqb t.kind 69) _ h2).1 in
      let h4 = (neither (eqb t.kind 70) _ h3).1 in
      rw ((neither (eqb t.kind 65) _ h).0, k, (neither (eqb t.kind 68) _ h1).0, (neither (eqb t.kind 69) _ h2).0, (neither (eqb t.kind 70) _ h3).0)
      (go (eqb t.kind 6) h4)
    where
      go : (u : Bool) → (u && followed (url_in t.value)) ≡ false
          → pick u (record { images = w.images; registration = redirected d w.registration t.value; flash = w.flash }) w ≡ w
      go true h = rw (ignored d w.registration t.value h)
      go false h = refl

-- an offered block is put
abbrev flash_in : World → Flash
flash_in w = record { image = w.images.image; bytes = w.flash }

module _ (d : Device) (w : World) (t : Tlv) (k : eqb t.kind 67 ≡ true) (o : w.images.«open» ≡ true) where
  taken : act d w t.kind t.value ≡ with_flash w (take_block w.images.image w.flash t.value)
  unfolding act block_taken
  taken = rw (eqb-true t.kind 67 k, o)

-- the records of a feed put the blocks that they offer
module _ (d : Device) (ts : List Tlv) where
  abbrev Fed : World → Type 0
  Fed w = ran d w ts ≡ with_flash w (put_all (offers w.images.image ts) (flash_in w))

  -- a block that is offered, and the records behind it
  block : (w : World) (v : List ℕ) (u : Option Offer) → offered w.images.image v ≡ u → ((next : World) → next.images.«open» ≡ w.images.«open» → Fed next)
      → ran d (with_flash w (take_block w.images.image w.flash v)) ts ≡ with_flash w (put_all (with_offer u (offers w.images.image ts)) (flash_in w))
  unfolding take_block put_all
  block w v None e ih = rw e (ih w refl)
  block w v (Some o) e ih =
      let p : Flash = put_block w.images.image w.flash o.number o.bytes in
      rw e (ih (with_flash w p) refl ∙ rw (offers-by p.image w.images.image ts (put-hash w.images.image w.flash o.number o.bytes)))

fed : (d : Device) (w : World) (ts : List Tlv) → w.images.«open» ≡ true → any_steers ts ≡ false → Fed d ts w
unfolding ran any_steers offers put_all
fed d w [] o h = refl
fed d w (t ∷ ts) o h =
    let a = (neither (steers t) (any_steers ts) h).0 in
    let r = (neither (steers t) (any_steers ts) h).1 in
    split (eqb t.kind 67)
    (λ e. rw (taken d w t e o, e) (block d ts w t.value (offered w.images.image t.value) refl (λ n q. fed d n ts (q ∙ o) r)))
    (λ e. rw (skipped d w t a e, e) (fed d w ts o r))

-- a post is no acknowledgement
post-class : (kind code : ℕ) → eqb code 2 ≡ true → class_of kind code ≡ Acknowledgement → ⊥
unfolding class_of is_method
post-class kind code e h = go (ltb kind 2) (rw (eqb-true code 2 e) at h)
  where
    go : (t : Bool) → pick t Request Ignored ≡ Acknowledgement → ⊥
    go true h = let z : ◌≡◌ {A = ℕ} 0 1 = cc in omega arith
    go false h = let z : ◌≡◌ {A = ℕ} 0 1 = cc in omega arith

-- a call of a feed changes what the records that it runs change, and no more
abbrev ran_in : Kept → List Tlv → Kept
ran_in k ts =
    record {
      state = with_world k.state (ran k.state.device (world_in k.state k.image) ts);
      image = (ran k.state.device (world_in k.state k.image) ts).flash;
    }

abbrev kept_in : Effect → Kept
kept_in e = record { state = e.state; image = e.image }

abbrev kept_by : Served → Kept
kept_by v = record { state = v.state; image = v.image }

-- a record that is answered steers
answered-steers : (t : Tlv) → is_request t.kind ≡ true → steers t ≡ true
unfolding is_request listed steers
answered-steers t h = go (eqb t.kind 65) (eqb t.kind 68) (eqb t.kind 69) (eqb t.kind 70) _ h
  where
    go : (a b c d e : Bool) → (a || (b || (c || (d || false)))) ≡ true → (a || (b || (c || (d || e)))) ≡ true
    go true b c d e h = refl
    go false true c d e h = refl
    go false false true d e h = refl
    go false false false true e h = refl
    go false false false false e h = absurd (true≢false (sym h))

any-steers : (ts : List Tlv) → any_answered ts ≡ true → any_steers ts ≡ true
unfolding any_answered any_steers
any-steers [] h = absurd (true≢false (sym h))
any-steers (t ∷ ts) h = split (is_request t.kind) (λ e. rw (answered-steers t e)) (λ e. go (steers t) (any-steers ts (rw e at h)))
  where
    go : (a : Bool) {b : Bool} → b ≡ true → (a || b) ≡ true
    go true e = refl
    go false e = e

-- what asks for records
abbrev is_get : Asks → Bool
is_get (Error code) = false
is_get Post = false
is_get Index = true
is_get (Record id) = true
is_get Records = true

no-get : (a : Asks) → (a ≡ Post) ⊎ ((code : ℕ) × (a ≡ Error code)) → is_get a ≡ true → ⊥
no-get a (inl e) h = true≢false (sym (rw e at h))
no-get a (inr (code, e)) h = true≢false (sym (rw e at h))

module _ (k : Kept) (c : Call) where
  abbrev runs_as : Bool → List ℕ → Asks → List Tlv
  runs_as = runs_asked k.state.device k.state.assigned.groups k.state.waiting c

  abbrev runs_in : Result Frame FrameError → List Tlv
  runs_in = runs_framed k.state.device k.state.assigned.groups k.state.waiting c

  abbrev judgement : List ℕ → Judgement
  judgement p = judged_at k.state.device k.state.assigned.groups p c.time c.verdict

  by-judgement : (p : List ℕ) (b : Bool) (j : Judgement)
      → kept_by (served_post k.state (posted_as k.state.device (world_in k.state k.image) p b j)) ≡ ran_in k (runs_judged p j)
  unfolding ran posted_as
  by-judgement p b (Err code) = refl
  by-judgement p b (Ok tt) = refl

  post-kept : (p : List ℕ) → kept_by (served_post k.state (post_in k.state k.image c p)) ≡ ran_in k (runs_judged p (judgement p))
  unfolding posted
  post-kept p = by-judgement p (padded_in p) (judgement p)

  by-asks : (p ids : List ℕ) (a : Asks) → kept_by (served_as k.state k.image c p ids a) ≡ ran_in k (runs_as false p a)
  unfolding ran served_as shut_out
  by-asks p ids (Error code) = refl
  by-asks p ids Post = post-kept p
  by-asks p ids Index = refl
  by-asks p ids (Record id) = refl
  by-asks p ids Records = refl

  -- what a call leaves beside its answer: what its records do, and what the answers that wait hold
  pub record FedBy (ts : List Tlv) (e : Effect) : Type 0 where
    pub kept : kept_in e ≡ ran_in k ts
    pub answers : e.answers ≡ c.answers

  fed-none : (t : Bool) → FedBy (pick t [] []) (silent 0 k.state k.image c)
  unfolding ran
  fed-none true = record { kept = refl; answers = refl }
  fed-none false = record { kept = refl; answers = refl }

  -- a POST that asks for a delay: it runs as any other, or ends before step j; one that takes a place steers
  by-later : (f : Frame) (a : Asks) → (a ≡ Post) ⊎ ((code : ℕ) × (a ≡ Error code)) → any_steers (runs_as true (drop f.payload c.bytes) a) ≡ false
      → Later (FedBy (runs_as true (drop f.payload c.bytes) a)) k.state k.image c f a
  unfolding shut_out keeps
  by-later f a x n =
      let p = drop f.payload c.bytes in
      let w = k.state.waiting in
      record {
        failed = λ code e. rw e (fed-none true);
        refused = λ e code j. rw (e, j) (fed-none (shut_out true w p));
        shut = λ e j y z. rw (e, y, z) (fed-none true);
        runs = λ e j m. rw (e, m, and-false (is_full w), j) (record { kept = rw j at (post-kept p); answers = refl });
        responds = λ e j y m. absurd (true≢false (sym (any-steers (records p) y) ∙ rw (e, y, m, j) at n));
        index = λ e. absurd (no-get a x (rw e));
        one = λ id e. absurd (no-get a x (rw e));
        several = λ e. absurd (no-get a x (rw e));
      }

  by-class : (f : Frame) (l : Class) → eqb f.code 2 ≡ true → (l ≡ Acknowledgement → ⊥)
      → any_steers (runs_classed k.state.device k.state.assigned.groups k.state.waiting c f l) ≡ false
      → FedBy (runs_classed k.state.device k.state.assigned.groups k.state.waiting c f l) (classed k.state k.image c f l)
  unfolding ran classed replied served
  by-class f Request e h n =
      let r = request_of c.bytes f in
      let p = drop f.payload c.bytes in
      requested-by (FedBy (runs_as r.delayed p r.asks)) k.state k.image c f
      (λ d. record { kept = rw d (by-asks p (held r.ids) r.asks); answers = refl })
      (λ d. rw d (by-later f r.asks (post-asks c.bytes f (eqb-true f.code 2 e)) (rw d at n)))
  by-class f Acknowledgement e h n = absurd (h refl)
  by-class f Rejected e h n = record { kept = refl; answers = refl }
  by-class f Ignored e h n = record { kept = refl; answers = refl }

  -- a frame that can be read is not refused
  whole-outcome : (f : Frame) (l : Class) → (classed k.state k.image c f l).outcome ≡ 0
  unfolding classed replied keeps
  whole-outcome f Request =
      requested-by (λ (e : Effect). e.outcome ≡ 0) k.state k.image c f (λ _. refl)
      (λ _. silently (λ (e : Effect). e.outcome ≡ 0) k.state k.image c f refl (λ _. refl) (λ _. refl) refl (λ _. refl) (λ _. refl))
  whole-outcome f Acknowledgement = refl
  whole-outcome f Rejected = refl
  whole-outcome f Ignored = refl

  by-frame : (m : Result Frame FrameError) (b : Bool)
      → (not (eqb (received k.state k.image c m).outcome 0) || (frames_post m && b)) ≡ true → any_steers (runs_in m) ≡ false
      → FedBy (runs_in m) (received k.state k.image c m)
  unfolding ran received
  by-frame (Ok f) b h n =
      let t = both (eqb f.code 2) b (rw (whole-outcome f (class_of f.kind f.code)) at h) in
      by-class f (class_of f.kind f.code) t.0 (post-class f.kind f.code t.0) n
  by-frame (Err (Malformed kind id)) b h n = record { kept = refl; answers = refl }
  by-frame (Err Foreign) b h n = record { kept = refl; answers = refl }

  -- a refused call runs nothing
  refused-frame : (m : Result Frame FrameError) → eqb (received k.state k.image c m).outcome 0 ≡ false → runs_in m ≡ []
  unfolding received
  refused-frame (Ok f) h =
      let z : ◌≡◌ {A = ℕ} 0 1 = absurd (eqb-false _ 0 h (whole-outcome f (class_of f.kind f.code))) in absurd (omega arith)
  refused-frame (Err (Malformed kind id)) h = refl
  refused-frame (Err Foreign) h = refl

  refused-runs : eqb (datagram_of k.state k.image c).outcome 0 ≡ false → runs k c ≡ []
  unfolding datagram_of runs
  refused-runs h = go (eqb (refusal k.state k.image c) 0) refl
    where
      go : (t : Bool) → eqb (refusal k.state k.image c) 0 ≡ t → runs k c ≡ []
      go true e = rw e (refused-frame (frame_of c.bytes) (rw e at h))
      go false e = rw e

  -- no record that a feed's call runs steers
  steady : feeds k c ≡ true → any_steers (runs k c) ≡ false
  unfolding feeds any_steers
  steady h =
      split (eqb (datagram_of k.state k.image c).outcome 0)
      (λ e. go (frames_post (frame_of c.bytes)) (any_steers (runs k c)) (rw e at h))
      (λ e. rw (refused-runs e))
    where
      go : (a b : Bool) → (a && not b) ≡ true → b ≡ false
      go true true h = let z : ◌≡◌ {A = ℕ} 0 1 = cc in absurd (omega arith)
      go false true h = let z : ◌≡◌ {A = ℕ} 0 1 = cc in absurd (omega arith)
      go a false h = refl

  fed_by : feeds k c ≡ true → FedBy (runs k c) (datagram_of k.state k.image c)
  unfolding ran datagram_of runs feeds
  fed_by h =
      let n = steady h in
      split (eqb (refusal k.state k.image c) 0)
      (λ e. rw e (by-frame (frame_of c.bytes) _ (rw e at h) (rw e at n)))
      (λ e. rw e (record { kept = refl; answers = refl }))

  after-runs : feeds k c ≡ true → after k c ≡ ran_in k (runs k c)
  after-runs h = (fed_by h).kept

-- what a call runs goes by parts that no feed changes
module _ (k : Kept) (o : k.state.images.«open» ≡ true) where
  runs_same : (f : Flash) (c : Call) → length f.bytes ≡ length k.image → runs (kept_with k f) c ≡ runs k c
  unfolding runs refusal
  runs_same f c e = rw e

  -- and so does whether it is one of a feed
  outcome-frame : (f : Flash) (c : Call) (m : Result Frame FrameError)
      → (received (kept_with k f).state f.bytes c m).outcome ≡ (received k.state k.image c m).outcome
  unfolding received
  outcome-frame f c (Ok g) = whole-outcome (kept_with k f) c g (class_of g.kind g.code) ∙ sym (whole-outcome k c g (class_of g.kind g.code))
  outcome-frame f c (Err (Malformed kind id)) = refl
  outcome-frame f c (Err Foreign) = refl

  outcome-same : (f : Flash) (c : Call) → length f.bytes ≡ length k.image
      → (datagram_of (kept_with k f).state f.bytes c).outcome ≡ (datagram_of k.state k.image c).outcome
  unfolding datagram_of refusal
  outcome-same f c e =
      rw e (split (eqb (refusal k.state k.image c) 0) (λ z. rw z (outcome-frame f c (frame_of c.bytes))) (λ z. rw z))

  feeds-same : (f : Flash) (c : Call) → length f.bytes ≡ length k.image → feeds (kept_with k f) c ≡ feeds k c
  unfolding feeds
  feeds-same f c e = rw (outcome-same f c e, runs_same f c e)

  brought-same : (f : Flash) (c : Call) → length f.bytes ≡ length k.image → f.image.hash ≡ k.state.images.image.hash
      → brought (kept_with k f) (c ∷ []) ≡ brought k (c ∷ [])
  unfolding brought
  brought-same f c e g = rw (runs_same f c e, offers-by f.image k.state.images.image (runs k c) g)

  fed-call : (f : Flash) (c : Call) → length f.bytes ≡ length k.image → f.image.hash ≡ k.state.images.image.hash → feeds k c ≡ true
      → after (kept_with k f) c ≡ kept_with k (put_all (offers k.state.images.image (runs k c)) f)
  fed-call f c e g h =
      after-runs (kept_with k f) c (feeds-same f c e ∙ h)
      ∙ rw (runs_same f c e, fed k.state.device (with_flash (world_in k.state k.image) f) (runs k c) o (steady k c h), offers-by f.image k.state.images.image (runs k c) g)

  fed-all : (cs : List Call) (f : Flash) → length f.bytes ≡ length k.image → f.image.hash ≡ k.state.images.image.hash → Feed k cs
      → after_all cs (kept_with k f) ≡ kept_with k (put_all (brought k cs) f)
  unfolding after_all brought put_all
  fed-all [] f e g h = refl
  fed-all (c ∷ cs) f e g h =
      let os : List Offer = offers k.state.images.image (runs k c) in
      rw (fed-call f c e g h.0, put-append os (brought k cs) f)
      (fed-all cs (put_all os f) (puts-length os f ∙ e) (puts-hash os f ∙ g) h.1)

-- a merge of feeds is a feed
merge-feed : (k : Kept) {xs ys zs : List Call} → Merge xs ys zs → Feed k xs → Feed k ys → Feed k zs
merge-feed k nothing a b = tt
merge-feed k (first m) a b = (a.0, merge-feed k m a.1 b)
merge-feed k (second m) a b = (b.0, merge-feed k m a b.1)

pub feeds-stand : FeedsStand
feeds-stand =
    record {
      turn = λ k xs c o h.
          let F : Flash = put_all (brought k xs) (flash_of k) in
          let l = puts-length (brought k xs) (flash_of k) in
          rw (fed-all k o xs (flash_of k) refl refl h) (feeds-same k o F c l, runs_same k o F c l, brought-same k o F c l (puts-hash (brought k xs) (flash_of k)));
      merge = λ k xs ys zs a b m. merge-feed k m a b;
    }

-- a block that is put leaves the bitmap's length
put-mapped : (i : Image) (bs : List ℕ) (n : ℕ) (d : List ℕ) → length i.bitmap ≡ 128 → length (put_block i bs n d).image.bitmap ≡ 128
put-mapped i bs n d h =
    put-cases i bs n d (λ (f : Flash). length f.image.bitmap ≡ 128) h (λ _ _. length_marked i.bitmap n ∙ h)

pub map-stays : MapStays
unfolding put_all
map-stays f [] h = h
map-stays f (o ∷ os) h = map-stays (put_block f.image f.bytes o.number o.bytes) os (put-mapped f.image f.bytes o.number o.bytes h)
