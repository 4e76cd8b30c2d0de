-- Every state that setup and calls make is sized.
use Rattle.std.specs.Prelude.{None, Option, Some, Result, Ok, Err}
use Prim.Native.Nat.{ℕ, ◌-◌, ◌≤◌}
use mathlib.Core.Path.{◌≡◌, refl, sym, ◌∙◌}
use mathlib.Core.List.{List, [], ◌∷◌}
use mathlib.Core.Bool.{Bool, true, false, not, ◌&&◌, ◌||◌, true≢false}
use mathlib.Core.Logic.{inl}
use native.Mathlib.Omega.{arith}
use borrow.Author.Tests.{ltb-false, leb-true, eqb-true, eqb-false, not-true}
use lib.Dec.{eqb, ltb, leb}
use lib.ListN.{length, take, drop, replicate}
use lib.Seq.{length-sets}
use Rattle.buffer.proofs.Tests.{pick-both, both, neither}
use Rattle.buffer.specs.Same.{same_bytes}
use Rattle.coap.specs.Frame.{frame_of}
use Rattle.coap.specs.declared.FrameError.{FrameError}
use Rattle.coap.specs.declared.FrameError.TheVariants.{Malformed, Foreign}
use Rattle.coap.specs.declared.Frame.{Frame}
use Rattle.csmp.specs.Values.{at_most}
use Rattle.decode.specs.Read.{redirect_of}
use Rattle.decode_image.specs.Read.{transfer_of, load_of, hash_of}
use Rattle.csmp.specs.declared.Image.{Image}
use Rattle.decode_image.specs.declared.Transfer.{Transfer}
use Rattle.firmware.specs.Answer.{is_open}
use Rattle.loading.specs.Load.{with_pending, is_pending, open_fault, source_fault, pending_fault, loads, loads_at, load_taken, load_answered, cancels, cancel_taken, cancel_answered, backs, backup_taken, backup_answered, booted}
use Rattle.opening.specs.Open.{sized_texts, is_given, number_or0, is_whole, is_ours, fault_of, opened_by, replaced, opens, open_if, transfer_taken, transfer_answered}
use Rattle.firmware.specs.Place.{is_hash, hash_at}
use Rattle.firmware.specs.declared.Answered.{Answered}
use Rattle.post.specs.Judge.{looked_at, padded_in, judged_as, Judgement}
use Rattle.post.specs.Value.{reading_at, is_readable}
use Rattle.protobuf.specs.Each.{IfAny, Each}
use Rattle.protobuf.specs.Given.{bytes_given}
use Rattle.registration.specs.Redirect.{restarted}
use Rattle.decimal.specs.Ids.{held as listed}
use Rattle.request.specs.Request.{request_of}
use Rattle.request.specs.declared.Asks.{Asks}
use Rattle.request.specs.declared.Asks.TheVariants.{Error, Post as Posting, Index, Record, Records}
use Rattle.run.specs.Post.{posted_as, judged_at, posted}
use Rattle.run.specs.Run.{ran}
use Rattle.step.specs.Step.{World, with_images, block_taken, act}
use Rattle.run.proofs.Laws.{run-readable}
use Rattle.schedule.specs.declared.Point.{Point}
use Rattle.state.specs.Setup.{hash_of as running_of, within, valid_texts, valid_settings, first_state, setup_of}
use Rattle.state.specs.declared.Device.{Device}
use Rattle.state.specs.declared.Groups.{Groups}
use Rattle.state.specs.declared.Images.{Images}
use Rattle.state.specs.declared.State.{State}
use Rattle.state.specs.declared.setup.Settings.{Settings}
use Rattle.state.specs.declared.setup.Setup.{Setup}
use Rattle.tlv.specs.Record.{Tlv, records}
use Rattle.transfer.specs.Bitmap.{CountsOnes, Counted}
use Rattle.transfer.specs.Block.{Flash, Offer, offered, put_block, put_offer, take_block}
use Rattle.transfer.specs.Blocks.{blocks}
use Rattle.transfer.proofs.Counts.{ones_none, counted-put}
use Rattle.transfer.proofs.Marks.{length_marked, held_none}
use Rattle.transfer.proofs.Puts.{put-cases}
use Rattle.utf8.specs.Utf8.{IsText}
use Rattle.waiting.proofs.Sizes.{none-sized}
use Rattle.calls.specs.Boot.{boot_of}
use Rattle.class.specs.Class.{class_of}
use Rattle.calls.specs.Datagram.{Call, Effect, world_in, with_world, post_in, refusal, served_as, served, replied, classed, received, datagram_of}
use Rattle.calls.specs.Padding.{refusing_padding}
use Rattle.calls.specs.Made.{Made, set, called, rounded, reported, booted as reborn, padding, due, Between, DeviceSized, OpenSized, ImagesSized, RegistrationSized, Sized, MadeSized}
use Rattle.calls.proofs.TextLaws.{none-text, short-text, name-held, version-held, Named, name-text, version-text}
use Rattle.calls.proofs.Late.{Later, requested-by, silently}
use Rattle.calls.proofs.OwnSizes.{round-sized, report-sized}
use Rattle.calls.proofs.WaitSizes.{keeps-sized, body-short, ids-fit, answer-sized}
use Rattle.calls.proofs.AckSizes.{redirect-sized, acknowledged-sized}
use Rattle.class.specs.declared.Class.{Class}
use Rattle.class.specs.declared.Class.TheVariants.{Request, Acknowledgement, Rejected, Ignored}
use Rattle.protobuf.specs.declared.Span.{Span}

-- setup: texts and settings that are valid are sized
within-told : (low n high : ℕ) → within low n high ≡ true → Between low n high
unfolding within
within-told low n high h =
    let t = both (leb low n) (leb n high) h in
    (leb-true low n t.0, leb-true n high t.1)

module _ (hw vendor running url : List ℕ) (s : Settings) where
  first-sized : valid_texts hw vendor running url ≡ true → valid_settings s ≡ true → Sized (first_state hw vendor running url s)
  unfolding valid_texts valid_settings first_state running_of
  first-sized h g =
      let a = both (within 1 (length hw) 32) (leb (length vendor) 32 && (eqb (length running) 32 && within 1 (length url) 128)) h in
      let b = both (leb (length vendor) 32) (eqb (length running) 32 && within 1 (length url) 128) a.1 in
      let c = both (eqb (length running) 32) (within 1 (length url) 128) b.1 in
      let low = s.interval_min.0 in
      let high = s.interval_max.0 in
      let e = both (within 1 s.image_len 1048576) (leb 1 low && (leb low high && leb high 86400)) g in
      let f = both (leb 1 low) (leb low high && leb high 86400) e.1 in
      let k = both (leb low high) (leb high 86400) f.1 in
      let up = leb-true low high k.0 in
      record {
        device =
            record {
              hw = within-told 1 (length hw) 32 a.0;
              vendor = leb-true (length vendor) 32 b.0;
              home = within-told 1 (length url) 128 c.1;
              image = within-told 1 s.image_len 1048576 e.0;
              low = (leb-true 1 low f.0, up);
              high = leb-true high 86400 k.1;
            };
        images =
            record {
              running = length-sets (replicate 32 0) 0 running;
              opened = λ q. absurd (true≢false (sym q));
              number = sym ones_none;
              name = none-text (replicate 128 0);
              version = none-text (replicate 32 0);
              pending = refl;
              backup = refl;
            };
        assigned =
            record {
              list = refl;
              groups = omega arith;
              types = λ i j h k. absurd (omega arith);
              session = omega arith;
              text = none-text (replicate 64 0);
              ids = omega arith;
              each = tt;
            };
        registration = record { url = within-told 1 (length url) 128 c.1; text = inl refl; interval = (omega arith, up) };
        waiting = none-sized;
      }

  setup-sized : (setup_of hw vendor running url s).outcome ≡ 0 → Sized (setup_of hw vendor running url s).state
  unfolding setup_of
  setup-sized =
      pick-both (λ (x : Setup). x.outcome ≡ 0 → Sized x.state) (valid_texts hw vendor running url) _ _
      (λ h. pick-both (λ (x : Setup). x.outcome ≡ 0 → Sized x.state) (valid_settings s) _ _ (λ g e. first-sized h g) (λ g e. absurd (omega arith)))
      (λ h e. absurd (omega arith))

-- bytes of a value as the state holds them
hash-long : (v : List ℕ) (b : Option Span) → length (hash_at v b) ≡ 32
unfolding hash_at
hash-long v (Some x) = length-sets (replicate 32 0) 0 (take (x.end - x.start) (drop x.start v))
hash-long v None = refl

-- record 65: an image begins with no block held
opened-counts : (v : List ℕ) (t : Transfer) (size each : ℕ) → CountsOnes (opened_by v t size each)
unfolding opened_by
opened-counts v t size each = sym ones_none

-- what a request without a fault has
module _ (d : Device) (size each : ℕ) where
  abbrev Fits : Type 0
  Fits = Between 1 each 1024 × ((size ≤ d.image_len) × (blocks size each ≤ 1024))

  fits_by : (eqb each 0 || ltb 1024 each) ≡ false → (ltb d.image_len size || ltb 1024 (blocks size each)) ≡ false → Fits
  fits_by h l =
      let a = neither (eqb each 0) (ltb 1024 each) h in
      let b = neither (ltb d.image_len size) (ltb 1024 (blocks size each)) l in
      let z = eqb-false each 0 a.0 in
      ((omega arith, ltb-false 1024 each a.1), (ltb-false d.image_len size b.0, ltb-false 1024 (blocks size each) b.1))

module _ (d : Device) (i : Images) (v : List ℕ) (t : Transfer) (size each : ℕ) where
  abbrev Faultless : ℕ → Type 0
  Faultless n = n ≡ 0 → Fits d size each

  faultless : Faultless (fault_of d i v t size each)
  unfolding fault_of
  faultless =
      pick-both Faultless (eqb each 0 || ltb 1024 each) _ _ (λ h e. absurd (omega arith))
      (λ h. pick-both Faultless (is_ours d v t) _ _
      (λ o. pick-both Faultless i.pending.is _ _ (λ p e. absurd (omega arith))
      (λ p. pick-both Faultless (ltb d.image_len size || ltb 1024 (blocks size each)) _ _ (λ l e. absurd (omega arith))
      (λ l e. fits_by d size each h l))) (λ o e. absurd (omega arith)))

  opened-sized : IfAny IsText (bytes_given v t.name) → IfAny IsText (bytes_given v t.version) → is_whole t ≡ true → size ≡ number_or0 t.size
      → fault_of d i v t size each ≡ 0 → OpenSized d (opened_by v t size each) × Named (opened_by v t size each)
  unfolding is_whole sized_texts opened_by
  opened-sized name version w q e =
      let f = faultless e in
      let a = both (is_hash t.hash) (is_given t.block_size && (not (eqb (number_or0 t.size) 0) && sized_texts t)) w in
      let b = both (is_given t.block_size) (not (eqb (number_or0 t.size) 0) && sized_texts t) a.1 in
      let c = both (not (eqb (number_or0 t.size) 0)) (sized_texts t) b.1 in
      let n = eqb-false (number_or0 t.size) 0 (not-true (eqb (number_or0 t.size) 0) c.0) in
      let x = both (at_most 32 t.hw_id) (at_most 32 t.vendor_hw_id && (at_most 128 t.name && at_most 32 t.version)) c.1 in
      let y = both (at_most 32 t.vendor_hw_id) (at_most 128 t.name && at_most 32 t.version) x.1 in
      let z = both (at_most 128 t.name) (at_most 32 t.version) y.1 in
      let p = name-held v t.name (short-text 128 v t.name z.0 name) in
      let r = version-held v t.version (short-text 32 v t.version z.1 version) in (
        record {
          hash = hash-long v t.hash;
          name = p.0;
          version = r.0;
          size = (omega arith, f.1.0);
          each = f.0;
          count = f.1.1;
          bitmap = refl;
          spare = λ m k. held_none m;
        },
        (p.1, r.1),
      )

module _ (d : Device) (i : Images) (s : ImagesSized d i) where
  abbrev Answers : Answered → Type 0
  Answers a = ImagesSized d a.images

  opens-sized : (m : Image) → OpenSized d m × Named m → CountsOnes m → Answers (opens i m)
  unfolding opens replaced
  opens-sized m o n =
      pick-both Answers (is_open i m.hash) _ _ (λ h. s)
      (λ h. record {
        running = s.running;
        opened = λ e. o.0;
        number = n;
        name = o.1.0;
        version = o.1.1;
        pending = s.pending;
        backup = s.backup;
      })

  transfer-sized : (v : List ℕ) → (transfer_of v).reading.readable ≡ true → Answers (transfer_answered d i v)
  unfolding transfer_answered transfer_taken open_if
  transfer-sized v h =
      let t = transfer_of v in
      let size = number_or0 t.size in
      let each = number_or0 t.block_size in
      pick-both Answers (is_whole t) _ _
      (λ w. pick-both Answers (eqb (fault_of d i v t size each) 0) _ _
      (λ e. opens-sized (opened_by v t size each)
      (opened-sized d i v t size each (name-text v h) (version-text v h) w refl (eqb-true (fault_of d i v t size each) 0 e))
      (opened-counts v t size each)) (λ e. s)) (λ w. s)

  -- records 68 to 70
  pending-sized : (hash : List ℕ) (is : Bool) (time : Point) → length hash ≡ 32
      → ImagesSized d (with_pending i (record { is = is; hash = hash; time = time }))
  pending-sized hash is time l =
      record {
        running = s.running;
        opened = s.opened;
        number = s.number;
        name = s.name;
        version = s.version;
        pending = l;
        backup = s.backup;
      }

  loads-sized : (hash : List ℕ) (time : Point) → length hash ≡ 32 → Answers (loads i hash time)
  unfolding loads
  loads-sized hash time l =
      pick-both Answers (eqb (source_fault i hash) 0) _ _
      (λ h. pick-both Answers (eqb (pending_fault i hash) 0) _ _ (λ g. pending-sized hash true time l) (λ g. s)) (λ h. s)

  loads-at-sized : (hash : List ℕ) (time : Option Point) → length hash ≡ 32 → Answers (loads_at i hash time)
  unfolding loads_at
  loads-at-sized hash (Some t) l = pick-both Answers (eqb t.0 0) _ _ (λ h. s) (λ h. loads-sized hash t l)
  loads-at-sized hash None l = s

  load_sized : (v : List ℕ) → Answers (load_answered i v)
  unfolding load_answered load_taken
  load_sized v =
      pick-both Answers (is_hash (load_of v).hash) _ _
      (λ h. loads-at-sized (hash_at v (load_of v).hash) (load_of v).time (hash-long v (load_of v).hash)) (λ h. s)

  cancel-sized : (v : List ℕ) → Answers (cancel_answered i v)
  unfolding cancel_answered cancel_taken cancels
  cancel-sized v =
      let hash = hash_at v (hash_of v).hash in
      pick-both Answers (is_hash (hash_of v).hash) _ _
      (λ h. pick-both Answers (is_pending i hash) _ _ (λ p. pending-sized (replicate 32 0) false (record { 0 = 0 }) refl)
      (λ p. pick-both Answers (same_bytes i.running hash) _ _ (λ r. s) (λ r. s))) (λ h. s)

  backup-sized : (v : List ℕ) → Answers (backup_answered i v)
  unfolding backup_answered backup_taken backs
  backup-sized v =
      let hash = hash_at v (hash_of v).hash in
      pick-both Answers (is_hash (hash_of v).hash) _ _
      (λ h. pick-both Answers (eqb (open_fault i hash) 0) _ _
      (λ o. pick-both Answers i.pending.is _ _ (λ p. s)
      (λ p. record {
        running = s.running;
        opened = s.opened;
        number = s.number;
        name = s.name;
        version = s.version;
        pending = s.pending;
        backup = hash-long v (hash_of v).hash;
      })) (λ o. s)) (λ h. s)

-- record 67
module _ (d : Device) (i : Image) (bs : List ℕ) (s : OpenSized d i) (c : Counted i) (t : Named i) where
  abbrev BlocksSized : Image → Type 0
  BlocksSized j = OpenSized d j × CountsOnes j × Named j

  put-sized : (n : ℕ) (dat : List ℕ) → BlocksSized (put_block i bs n dat).image
  put-sized n dat =
      put-cases i bs n dat (λ (f : Flash). BlocksSized f.image) (s, c.number, t)
      (λ h g. let p = counted-put i n (length dat) c s.count s.bitmap h g in (
        record {
          hash = s.hash;
          name = s.name;
          version = s.version;
          size = s.size;
          each = s.each;
          count = s.count;
          bitmap = length_marked i.bitmap n ∙ s.bitmap;
          spare = p.spare;
        },
        p.number,
        t,
      ))

  offer-sized : (o : Option Offer) → BlocksSized (put_offer i bs o).image
  offer-sized None = (s, c.number, t)
  offer-sized (Some o) = put-sized o.number o.bytes

  take-sized : (v : List ℕ) → BlocksSized (take_block i bs v).image
  unfolding take_block
  take-sized v = offer-sized (offered i v)

pub open-counted : (d : Device) (i : Images) → ImagesSized d i → i.«open» ≡ true → Counted i.image
open-counted d i s o = record { number = s.number; spare = (s.opened o).spare }

-- what records may change
pub record WorldSized (d : Device) (w : World) : Type 0 where
  pub images : ImagesSized d w.images
  pub registration : RegistrationSized d w.registration

-- the records run can be read
readable-redirect : (k : ℕ) (v : List ℕ) → eqb k 6 ≡ true → (reading_at k v).readable ≡ true → (redirect_of v).reading.readable ≡ true
unfolding reading_at
readable-redirect k v e h = rw e at h

readable-transfer : (k : ℕ) (v : List ℕ) → eqb k 65 ≡ true → (reading_at k v).readable ≡ true → (transfer_of v).reading.readable ≡ true
unfolding reading_at
readable-transfer k v e h = rw (eqb-true k 65 e) at h

abbrev Readable : Tlv → Type 0
Readable t = is_readable t.kind t.value ≡ true

module _ (d : Device) (sized : DeviceSized d) where
  block-sized : (w : World) (v : List ℕ) → WorldSized d w → WorldSized d (block_taken w v)
  unfolding block_taken
  block-sized w v s =
      let i = s.images in
      pick-both (WorldSized d) w.images.«open» _ _
      (λ o. let t = take-sized d w.images.image w.flash (i.opened o) (open-counted d w.images i o) (i.name, i.version) v in
      record {
        images =
            record {
              running = i.running;
              opened = λ e. t.0;
              number = t.1;
              name = t.2.0;
              version = t.2.1;
              pending = i.pending;
              backup = i.backup;
            };
        registration = s.registration;
      })
      (λ o. s)

  act-sized : (w : World) (k : ℕ) (v : List ℕ) → is_readable k v ≡ true → WorldSized d w → WorldSized d (act d w k v)
  unfolding act
  act-sized w k v h s =
      pick-both (WorldSized d) (eqb k 6) _ _
      (λ e. record { images = s.images; registration = redirect-sized d w.registration sized s.registration v (readable-redirect k v e h) })
      (λ _. pick-both (WorldSized d) (eqb k 65) _ _ (λ e. changed (transfer-sized d w.images s.images v (readable-transfer k v e h)))
      (λ _. pick-both (WorldSized d) (eqb k 67) _ _ (λ _. block-sized w v s)
      (λ _. pick-both (WorldSized d) (eqb k 68) _ _ (λ _. changed (load_sized d w.images s.images v))
      (λ _. pick-both (WorldSized d) (eqb k 69) _ _ (λ _. changed (cancel-sized d w.images s.images v))
      (λ _. pick-both (WorldSized d) (eqb k 70) _ _ (λ _. changed (backup-sized d w.images s.images v)) (λ _. s))))))
    where
      changed : {i : Images} → ImagesSized d i → WorldSized d (with_images w i)
      changed x = record { images = x; registration = s.registration }

  pub ran-sized : (w : World) (ts : List Tlv) → Each Readable ts → WorldSized d w → WorldSized d (ran d w ts)
  unfolding ran
  ran-sized w [] h s = s
  ran-sized w (t ∷ ts) h s = ran-sized (act d w t.kind t.value) ts h.1 (act-sized w t.kind t.value h.0 s)

  posted-as-sized : (w : World) (p : List ℕ) (b : Bool) (j : Judgement) → (j ≡ Ok tt → Each Readable (records p)) → WorldSized d w
      → WorldSized d (posted_as d w p b j).world
  unfolding posted_as
  posted-as-sized w p b (Err code) h s = s
  posted-as-sized w p b (Ok tt) h s = ran-sized w (records p) (h refl) s

posted-sized : (d : Device) (g : Groups) (w : World) (p : List ℕ) (time : Point) (verdict : ℕ) → DeviceSized d → WorldSized d w
    → WorldSized d (posted d g w p time verdict).world
unfolding posted judged_at
posted-sized d g w p time verdict k s =
    posted-as-sized d k w p (padded_in p) (judged_as d.refuse_padding (padded_in p) (looked_at g time p) verdict d.signed_posts)
    (run-readable g time p verdict d.signed_posts d.refuse_padding) s

module _ (s : State) (image : List ℕ) (sized : Sized s) where
  pub world-sized : WorldSized s.device (world_in s image)
  world-sized = record { images = sized.images; registration = sized.registration }

  module _ (c : Call) where
    post-sized : (payload : List ℕ) → Sized (with_world s (post_in s image c payload).world)
    post-sized payload =
        let w = posted-sized s.device s.assigned.groups (world_in s image) payload c.time c.verdict sized.device world-sized in
        record { device = sized.device; images = w.images; assigned = sized.assigned; registration = w.registration; waiting = sized.waiting }

    served-sized : (payload ids : List ℕ) (asks : Asks) → Sized (served_as s image c payload ids asks).state
    unfolding served_as
    served-sized payload ids (Error code) = sized
    served-sized payload ids Posting = post-sized payload
    served-sized payload ids Index = sized
    served-sized payload ids (Record id) = sized
    served-sized payload ids Records = sized

    abbrev Leaves : Effect → Type 0
    Leaves e = Sized e.state

    later-sized : (f : Frame) → Later Leaves s image c f (request_of c.bytes f).asks
    later-sized f =
        let p = drop f.payload c.bytes in
        silently Leaves s image c f sized (λ j. post-sized p)
        (λ j. keeps-sized (with_world s (post_in s image c p).world) (post-sized p) _ c f _ _ _ (body-short s image c p j))
        (keeps-sized s sized image c f _ [] false (omega arith))
        (λ id. keeps-sized s sized image c f _ [] false (omega arith))
        (λ e. keeps-sized s sized image c f _ _ false (ids-fit c.bytes f e))

    classed-sized : (f : Frame) (k : Class) → Sized (classed s image c f k).state
    unfolding classed replied served
    classed-sized f Request =
        requested-by Leaves s image c f
        (λ n. served-sized (drop f.payload c.bytes) (listed (request_of c.bytes f).ids) (request_of c.bytes f).asks)
        (λ d. later-sized f)
    classed-sized f Acknowledgement = acknowledged-sized s sized f.id (drop f.payload c.bytes) c.time c.verdict
    classed-sized f Rejected = sized
    classed-sized f Ignored = sized

    received-sized : (r : Result Frame FrameError) → Sized (received s image c r).state
    unfolding received
    received-sized (Err Foreign) = sized
    received-sized (Err (Malformed kind id)) = sized
    received-sized (Ok f) = classed-sized f (class_of f.kind f.code)

    datagram-sized : Sized (datagram_of s image c).state
    unfolding datagram_of
    datagram-sized = pick-both Leaves (eqb (refusal s image c) 0) _ _ (λ h. received-sized (frame_of c.bytes)) (λ h. sized)

boot-images-sized : (d : Device) (i : Images) → ImagesSized d i → ImagesSized d (booted i)
unfolding booted
boot-images-sized d i k =
    pick-both (ImagesSized d) i.pending.is _ _
    (λ h. record {
      running = k.pending;
      opened = k.opened;
      number = k.number;
      name = k.name;
      version = k.version;
      pending = refl;
      backup = k.backup;
    })
    (λ h. k)

boot-sized : (s : State) → Sized s → Sized (boot_of s)
unfolding boot_of restarted
boot-sized s k =
    record {
      device = k.device;
      images = boot-images-sized s.device s.images k.images;
      assigned = k.assigned;
      registration = record { url = k.device.home; text = inl refl; interval = (omega arith, k.device.low.1) };
      waiting = k.waiting;
    }

-- what is promised of sizes does not go by padding
refusing-sized : (s : State) (on : Bool) → Sized s → Sized (refusing_padding s on)
unfolding refusing_padding
refusing-sized s on k =
    let d = k.device in
    let i = k.images in
    record {
      device = record { hw = d.hw; vendor = d.vendor; home = d.home; image = d.image; low = d.low; high = d.high };
      images =
          record {
            running = i.running;
            opened =
                λ o. let x = i.opened o in
                record { hash = x.hash; name = x.name; version = x.version; size = x.size; each = x.each; count = x.count; bitmap = x.bitmap; spare = x.spare };
            number = i.number;
            name = i.name;
            version = i.version;
            pending = i.pending;
            backup = i.backup;
          };
      assigned = k.assigned;
      registration = record { url = k.registration.url; text = k.registration.text; interval = k.registration.interval };
      waiting = k.waiting;
    }

made : {s : State} → Made s → Sized s
made (set hw vendor running url s e) = setup-sized hw vendor running url s e
made (called {s} m image c) = datagram-sized s image (made m) c
made (rounded {s} m out store time) = round-sized s out store time (made m)
made (reported {s} m out store time which) = report-sized s out store time which (made m)
made (reborn {s} m) = boot-sized s (made m)
made (padding {s} m on) = refusing-sized s on (made m)
made (due {s} m answers out store time) = answer-sized s answers out store time (made m)

pub made-sized : MadeSized
made-sized s m = made m
