-- What `specs/Padded.antt` states.
use Rattle.std.specs.Prelude.{Result, Ok, Err}
use Prim.Native.Nat.{ℕ}
use mathlib.Core.Path.{◌≡◌, refl, sym}
use mathlib.Core.List.{List}
use mathlib.Core.Bool.{Bool, true, false, not, ◌&&◌, and-false, true≢false}
use lib.Dec.{eqb}
use lib.ListN.{drop}
use Rattle.ack.specs.Take.{is_awaited, is_takable, accepted_by, acknowledged, taken_padded}
use Rattle.buffer.specs.Pick.{pick}
use Rattle.buffer.proofs.Tests.{split, pick-both}
use Rattle.class.specs.Class.{class_of}
use Rattle.class.specs.declared.Class.{Class}
use Rattle.class.specs.declared.Class.TheVariants.{Request, Acknowledgement, Rejected, Ignored}
use Rattle.coap.specs.Frame.{frame_of}
use Rattle.coap.specs.declared.FrameError.{FrameError}
use Rattle.coap.specs.declared.FrameError.TheVariants.{Malformed, Foreign}
use Rattle.coap.specs.declared.Frame.{Frame}
use Rattle.outgoing.specs.Sent.{registration_sent, report_sent}
use Rattle.learn.specs.Learn.{learnt_from}
use Rattle.post.specs.Judge.{looked_at, padded_in, judged, judged_as, Judgement}
use Rattle.refusal.specs.Refusal.{own_refusal}
use Rattle.registration.specs.Round.{id_taken, round_taken}
use Rattle.request.specs.Request.{request_of}
use Rattle.request.specs.declared.Asks.{Asks}
use Rattle.request.specs.declared.Asks.TheVariants.{Error, Post as Posting, Index, Record, Records}
use Rattle.run.specs.Post.{posted_as, judged_at, posted}
use Rattle.state.specs.Setup.{valid_texts, valid_settings, first_state, blank_state, setup_of}
use Rattle.state.specs.declared.Device.{Device}
use Rattle.state.specs.declared.State.{State}
use Rattle.state.specs.declared.setup.Settings.{Settings}
use Rattle.step.specs.Step.{World}
use Rattle.calls.specs.Boot.{boot_of}
use Rattle.calls.specs.Datagram.{Call, Effect, world_in, refusal, post_in, served_as, served, replied, keeps, classed, received, datagram_of}
use Rattle.calls.specs.Own.{round_of, reports, report_of}
use Rattle.calls.specs.Padded.{posted_before, SamePost, ReadingsStand, PaddingRefused}
use Rattle.calls.proofs.AckSizes.{by-taken}
use Rattle.calls.proofs.Groups.{requested-leaves, own-leaves}
use Rattle.calls.proofs.Late.{requested-by, silently}

-- what a judgement leads to does not go by padding
same_post : (d : Device) (w : World) (p : List ℕ) (a b : Bool) (j : Judgement) → SamePost (posted_as d w p a j) (posted_as d w p b j)
unfolding posted_as
same_post d w p a b (Err code) = record { code = refl; world = refl; body = refl }
same_post d w p a b (Ok tt) = record { code = refl; world = refl; body = refl }

pub readings-stand : ReadingsStand
unfolding posted judged_at judged_as posted_before acknowledged
readings-stand =
    record {
      posts = λ d g w p time verdict h. rw h (same_post d w p (padded_in p) false (judged (looked_at g time p) verdict d.signed_posts));
      acknowledgements = λ s id p time verdict h. rw h;
    }

-- off after setup
starts : (hw vendor running url : List ℕ) (s : Settings) → (setup_of hw vendor running url s).state.device.refuse_padding ≡ false
unfolding setup_of first_state blank_state
starts hw vendor running url s =
    split (valid_texts hw vendor running url) (λ a. split (valid_settings s) (λ b. rw (a, b)) (λ b. rw (a, b))) (λ a. rw a)

-- a datagram leaves the device
module _ (s : State) (image : List ℕ) (c : Call) where
  abbrev Device-kept : Effect → Type 0
  Device-kept e = e.state.device ≡ s.device

  classed-keeps : (f : Frame) (k : Class) → Device-kept (classed s image c f k)
  unfolding classed accepted_by
  classed-keeps f Request = requested-leaves (λ (x : State). x.device) s image (λ w x. refl) c f
  classed-keeps f Acknowledgement =
      by-taken s f.id (drop f.payload c.bytes) c.time c.verdict (λ (x : State). x.device ≡ s.device) refl (λ _. refl) (λ _ _. refl)
  classed-keeps f Rejected = refl
  classed-keeps f Ignored = refl

  received-keeps : (m : Result Frame FrameError) → Device-kept (received s image c m)
  unfolding received
  received-keeps (Ok f) = classed-keeps f (class_of f.kind f.code)
  received-keeps (Err (Malformed kind id)) = refl
  received-keeps (Err Foreign) = refl

  called : Device-kept (datagram_of s image c)
  unfolding datagram_of
  called = pick-both Device-kept (eqb (refusal s image c) 0) _ _ (λ _. received-keeps (frame_of c.bytes)) (λ _. refl)

-- refused, it is never answered
posted-never : (d : Device) (w : World) (p : List ℕ) (on b : Bool) (j : Judgement) → on ≡ true → (posted_as d w p b (pick (on && b) (Err 128) j)).padded ≡ false
unfolding posted_as
posted-never d w p true true j h = refl
posted-never d w p true false (Err code) h = refl
posted-never d w p true false (Ok tt) h = refl
posted-never d w p false b j h = absurd (true≢false (sym h))

-- and changes nothing
refused-same : (on b : Bool) (s next : State) → on ≡ true → b ≡ true → pick (on && b) s next ≡ s
refused-same on b s next h k = rw (h, k)

taken-never : (on a t b : Bool) → on ≡ true → (a && (t && (not on && b))) ≡ false
taken-never on a t b h = rw (h, and-false t, and-false a)

module _ (s : State) (image : List ℕ) (c : Call) (h : s.device.refuse_padding ≡ true) where
  abbrev Never : Effect → Type 0
  Never e = e.padded ≡ false

  post-never : (payload : List ℕ) → (post_in s image c payload).padded ≡ false
  unfolding posted judged_at judged_as
  post-never payload = posted-never s.device (world_in s image) payload s.device.refuse_padding (padded_in payload) _ h

  served-never : (payload ids : List ℕ) (a : Asks) → (served_as s image c payload ids a).padded ≡ false
  unfolding served_as
  served-never payload ids (Error code) = refl
  served-never payload ids Posting = post-never payload
  served-never payload ids Index = refl
  served-never payload ids (Record id) = refl
  served-never payload ids Records = refl

  classed-never : (f : Frame) (k : Class) → Never (classed s image c f k)
  unfolding classed replied served keeps taken_padded
  classed-never f Request =
      let p = drop f.payload c.bytes in
      requested-by Never s image c f (λ _. served-never p _ (request_of c.bytes f).asks)
      (λ _. silently Never s image c f refl (λ _. post-never p) (λ _. post-never p) refl (λ _. refl) (λ _. refl))
  classed-never f Acknowledgement =
      let p = drop f.payload c.bytes in
      taken-never s.device.refuse_padding (is_awaited s.registration f.id)
      (is_takable (learnt_from s.device s.registration s.assigned c.time p) c.verdict s.device.signed_responses) _ h
  classed-never f Rejected = refl
  classed-never f Ignored = refl

  received-never : (m : Result Frame FrameError) → Never (received s image c m)
  unfolding received
  received-never (Ok f) = classed-never f (class_of f.kind f.code)
  received-never (Err (Malformed kind id)) = refl
  received-never (Err Foreign) = refl

  never : Never (datagram_of s image c)
  unfolding datagram_of
  never = pick-both Never (eqb (refusal s image c) 0) _ _ (λ _. received-never (frame_of c.bytes)) (λ _. refl)

pub padding-refused : PaddingRefused
unfolding round_of report_of boot_of judged_at judged_as acknowledged
padding-refused =
    record {
      setup = starts;
      called = called;
      rounded =
          λ s out store time.
          own-leaves (λ (x : State). x.device) s (round_taken s.device s.registration) refl (own_refusal out store (not s.registration.accepted) 8) (registration_sent s store time);
      reported =
          λ s out store time which.
          own-leaves (λ (x : State). x.device) s (id_taken s.registration) refl (own_refusal out store (reports s which) 9) (report_sent s store time);
      booted = λ s. refl;
      posts = λ d g p time verdict h k. rw (h, k);
      acknowledgements = λ s id p time verdict h k. refused-same s.device.refuse_padding _ s _ h k;
      never = never;
    }
