-- What a datagram asks, and what is done by it, leads to what `datagram_of` says: a law for each answer of the code.
use Rattle.std.specs.Prelude.{Result, Ok, Err}
use Rattle.post.specs.Judge.{Judgement}
use Prim.Native.Nat.{ℕ, ◌≤◌, ◌<◌}
use mathlib.Core.Path.{◌≡◌, refl, sym, ap, subst, ◌∙◌}
use mathlib.Core.List.{List, []}
use mathlib.Core.Bool.{Bool, true, false, ◌&&◌, true≢false}
use native.Mathlib.Omega.{arith}
use borrow.Author.Tests.{eqb-true, ne_eqb}
use lib.Dec.{eqb}
use lib.ListN.{length, drop}
use Rattle.ack.specs.Take.{acknowledged, taken_padded}
use Rattle.buffer.specs.Pick.{pick}
use Rattle.buffer.proofs.Tests.{split, both}
use Rattle.calls.specs.Datagram.{Call, Effect, refusal, silent, sends, failed, world_in, with_world, served_post, served_get, post_in, served_as, served, replied}
use Rattle.calls.specs.Datagram.{waiting_with, answers_with, with_waiting, keeps, ran_later, posted_later, delayed_as, requested, classed, received, datagram_of}
use Rattle.calls.specs.Merge.{shut_out}
use Rattle.class.specs.Class.{class_of}
use Rattle.class.specs.declared.Class.{Class}
use Rattle.class.specs.declared.Class.TheVariants.{Request, Acknowledgement as Acknowledging, Rejected, Ignored}
use Rattle.coap.specs.Frame.{frame_of}
use Rattle.coap.specs.Write.{reset}
use Rattle.coap.specs.declared.FrameError.{FrameError}
use Rattle.coap.specs.declared.FrameError.TheVariants.{Malformed, Foreign}
use Rattle.coap.specs.declared.Frame.{Frame}
use Rattle.postpone.specs.Late.{waiting_as, answers_as, call_with, ActedLate}
use Rattle.receive.specs.Asked.{malformed_as, request_as, delayed_as as asked_later, judged_as, class_as, read_as, asked_of}
use Rattle.receive.specs.declared.Asked.{Asked}
use Rattle.receive.specs.declared.Asked.TheVariants.{Nothing, Reset, Acknowledgement, Error, Post, Index, Record, Records, Later}
use Rattle.refusal.proofs.Laws.{room}
use Rattle.reply.specs.Reply.{reply_to, reset_to}
use Rattle.reply.specs.declared.DatagramAnswer.{DatagramAnswer}
use Rattle.reply.proofs.Laws.{sent-appended, sent-silent}
use Rattle.request.specs.Request.{request_of}
use Rattle.request.specs.declared.Asks.{Asks}
use Rattle.request.specs.declared.Asks.TheVariants.{Error as Erring, Post as Posting, Index as Indexing, Record as One, Records as Several}
use Rattle.run.specs.Post.{Post as Posted, posted_as, judged_at, posted, posted_from, BegunBy}
use Rattle.run.specs.Run.{records_at, world_with, ran, responses, any_answered}
use Rattle.run.specs.declared.front.Begun.{Begun}
use Rattle.run.proofs.Answered.{responses-none, responses-some}
use Rattle.run.proofs.Walk.{at-end}
use Rattle.serve.specs.Received.{Received, Told}
use Rattle.serve.specs.Wanted.{got_of}
use Rattle.serve.specs.declared.Wanted.{Wanted}
use Rattle.serve.specs.declared.Wanted.TheVariants.{Index as TheIndex, Record as OneRecord, Records as SomeRecords}
use Rattle.state.specs.declared.State.{State}
use Rattle.state.specs.declared.What.TheVariants.{Responses}
use Rattle.tlv.specs.Record.{records}
use Rattle.waiting.specs.Waiting.{is_full}
use Rattle.dispatch.specs.Left.{answer_in, Left}

-- tests of a POST that asks for a delay
some-length : (bs : List ℕ) → 1 ≤ length bs → eqb (length bs) 0 ≡ false
some-length bs h = ne_eqb (length bs) 0 (λ e. omega arith)

full-not : (full : Bool) → (full && true) ≡ false → full ≡ false
full-not true h = absurd (true≢false h)
full-not false h = refl

-- what a call does by what its datagram asks
module _ (s : State) (image : List ℕ) (c : Call) where
  got : Frame → Wanted → Effect
  got f w = replied f c (served_get s image (got_of s c.bytes c.store f c.time w))

  abbrev payload_in : Frame → List ℕ
  payload_in f = drop f.payload c.bytes

  abbrev judgement : Frame → Judgement
  judgement f = judged_at s.device s.assigned.groups (payload_in f) c.time c.verdict

  post_done : Frame → Bool → Effect
  post_done f true = posted_later s image c f (payload_in f) (judgement f)
  post_done f false = replied f c (served_post s (post_in s image c (payload_in f)))

  abbrev kept_call : Call
  kept_call = call_with c.bytes c.time c.random c.answers

  later_done : Frame → Effect
  later_done f =
      record {
        outcome = 0;
        reply = [];
        state = with_waiting s (waiting_as s.waiting kept_call f.options (request_of c.bytes f).asks);
        answers = answers_as s.waiting kept_call f.options (request_of c.bytes f).asks;
        image = image;
        padded = false;
      }

  done_as : Asked → Effect
  done_as (Nothing outcome) = silent outcome s image c
  done_as (Reset outcome id) = sends outcome (reset id) s image c false
  done_as (Acknowledgement f) =
      sends 0 [] (acknowledged s f.id (payload_in f) c.time c.verdict) image c (taken_padded s f.id (payload_in f) c.time c.verdict)
  done_as (Error f code) = replied f c (failed code s image)
  done_as (Post f delayed) = post_done f delayed
  done_as (Index f) = got f TheIndex
  done_as (Record f id) = got f (OneRecord id)
  done_as (Records f) = got f SomeRecords
  done_as (Later f) = later_done f

  now-done : (f : Frame) (a : Asks) → (request_of c.bytes f).asks ≡ a → replied f c (served s image c f) ≡ done_as (request_as f a)
  unfolding served served_as request_as got_of done_as post_done got
  now-done f (Erring code) e = rw e
  now-done f Posting e = rw e
  now-done f Indexing e = rw e
  now-done f (One id) e = rw e
  now-done f Several e = rw e

  later-done : (f : Frame) (a : Asks) → (request_of c.bytes f).asks ≡ a → delayed_as s image c f (payload_in f) a ≡ done_as (asked_later f a)
  unfolding delayed_as asked_later done_as post_done later_done keeps waiting_as answers_as waiting_with answers_with
  later-done f (Erring code) e = rw e
  later-done f Posting e = refl
  later-done f Indexing e = rw e
  later-done f (One id) e = rw e
  later-done f Several e = rw e

  request-done : (f : Frame) → requested s image c f (request_of c.bytes f) ≡ done_as (judged_as f (request_of c.bytes f))
  unfolding requested judged_as
  request-done f =
      split (request_of c.bytes f).delayed
      (λ e. rw e (later-done f (request_of c.bytes f).asks refl)) (λ e. rw e (now-done f (request_of c.bytes f).asks refl))

  class-done : (f : Frame) (k : Class) → classed s image c f k ≡ done_as (class_as c.bytes f k)
  unfolding classed class_as done_as
  class-done f Request = request-done f
  class-done f Acknowledging = refl
  class-done f Rejected = refl
  class-done f Ignored = refl

  read_done : (d : Result Frame FrameError) → received s image c d ≡ done_as (read_as c.bytes d)
  unfolding received read_as malformed_as reset_to done_as
  read_done (Err Foreign) = refl
  read_done (Err (Malformed kind id)) = split (eqb kind 0) (λ h. rw h) (λ h. rw h)
  read_done (Ok f) = class-done f (class_of f.kind f.code)

  abbrev asks : Asked
  asks = asked_of s.device.image_len (length image) (length c.out) c.bytes c.store c.verdict

  call-done : datagram_of s image c ≡ done_as asks
  unfolding datagram_of asked_of refusal done_as
  call-done = split (eqb (refusal s image c) 0) (λ h. rw h (read_done (frame_of c.bytes))) (λ h. rw h)

  -- whatever is asked but nothing was not refused, so the output has room
  is_served : Asked → Bool
  is_served (Nothing outcome) = false
  is_served (Reset outcome id) = true
  is_served (Acknowledgement f) = true
  is_served (Error f code) = true
  is_served (Post f delayed) = true
  is_served (Index f) = true
  is_served (Record f id) = true
  is_served (Records f) = true
  is_served (Later f) = true

  roomy : is_served asks ≡ true → 1280 ≤ length c.out
  unfolding asked_of refusal is_served
  roomy h =
      split (eqb (refusal s image c) 0)
      (λ e. room s.device.image_len (length image) (length c.out) (length c.bytes) c.store c.verdict (eqb-true (refusal s image c) 0 e))
      (λ e. let z : ◌≡◌ {A = ℕ} 0 1 = cc in absurd (omega arith))

  -- a POST that finds no place that it needs
  shut-done : (f : Frame) (delayed : Bool) → shut_out delayed s.waiting (payload_in f) ≡ true → post_done f delayed ≡ silent 0 s image c
  unfolding shut_out post_done posted_later ran_later
  shut-done f true h =
      let a = both (is_full s.waiting) (any_answered (records (payload_in f))) h in
      go (judgement f) a.0 a.1
    where
      go : (j : Judgement) → is_full s.waiting ≡ true → any_answered (records (payload_in f)) ≡ true
          → posted_later s image c f (payload_in f) j ≡ silent 0 s image c
      go (Err code) full answered = refl
      go (Ok tt) full answered = rw (answered, full)
  shut-done f false h = absurd (true≢false (sym h))

  -- one that runs: its responses, if there are any, are kept
  ran_as : Frame → Posted → Effect
  ran_as f r =
      record {
        outcome = 0;
        reply = [];
        state =
            pick (eqb (length r.body) 0) (with_world s r.world)
            (with_waiting (with_world s r.world) (waiting_with s.waiting kept_call f.options Responses r.body));
        answers = pick (eqb (length r.body) 0) c.answers (answers_with s.waiting kept_call f.options r.body);
        image = r.world.flash;
        padded = r.padded;
      }

  ran-as : (f : Frame) (j : Judgement) → judgement f ≡ j → shut_out true s.waiting (payload_in f) ≡ false
      → posted_later s image c f (payload_in f) j ≡ ran_as f (post_in s image c (payload_in f))
  unfolding posted_later ran_later posted posted_as ran_as shut_out keeps waiting_with answers_with
  ran-as f (Err code) u n = rw u
  ran-as f (Ok tt) u n =
      let ts = records (payload_in f) in
      let w = world_in s image in
      split (any_answered ts)
      (λ y. let m = responses-some s.device w ts y in
      rw (u, y, some-length (responses s.device w ts) m, full-not (is_full s.waiting) (rw y at n)))
      (λ y. rw (u, y, responses-none s.device w ts y))

  module _ {a : Asked} (e : a ≡ asks) where
    -- an answer without a reply, and the two buffers
    quiet : {x : Effect} {r : DatagramAnswer} {answers flash : List ℕ} → done_as a ≡ x → x.reply ≡ []
        → r ≡ record { outcome = x.outcome; len = 0; state = x.state; padded = x.padded } → answers ≡ x.answers → flash ≡ x.image
        → Left (datagram_of s image c) c.out r answers flash c.out
    quiet d n k w i =
        rw (call-done, ← e, d)
        (record { answer = rw n (sent-silent (ap answer_in k)); padded = ap (λ (x : DatagramAnswer). x.padded) k; answers = w; image = i })

    pub call-nothing : {outcome : ℕ} {r : DatagramAnswer} → a ≡ Nothing outcome → r ≡ record { outcome = outcome; len = 0; state = s; padded = false }
        → Left (datagram_of s image c) c.out r c.answers image c.out
    unfolding done_as
    call-nothing h k = quiet (rw h) refl k refl refl

    pub call-acknowledged : {f : Frame} {r : DatagramAnswer} → a ≡ Acknowledgement f
        → r ≡ record {
          outcome = 0;
          len = 0;
          state = acknowledged s f.id (payload_in f) c.time c.verdict;
          padded = taken_padded s f.id (payload_in f) c.time c.verdict;
        }
        → Left (datagram_of s image c) c.out r c.answers image c.out
    unfolding done_as
    call-acknowledged h k = quiet (rw h) refl k refl refl

    told : {outcome : ℕ} {reply : List ℕ} {next : State} {flash : List ℕ} {b : Bool} {r : DatagramAnswer} {left : List ℕ} → is_served a ≡ true
        → done_as a ≡ sends outcome reply next flash c b → Told outcome reply next b c.out r left
        → Left (datagram_of s image c) c.out r c.answers flash left
    told h d k =
        rw (call-done, ← e, d)
        (record {
          answer = sent-appended k.outcome k.state k.reply k.small (roomy (rw e at h));
          padded = k.padded;
          answers = refl;
          image = refl;
        })

    pub call-reset : {outcome id : ℕ} {r : DatagramAnswer} {left : List ℕ} → a ≡ Reset outcome id → Told outcome (reset id) s false c.out r left
        → Left (datagram_of s image c) c.out r c.answers image left
    unfolding done_as is_served
    call-reset h k = told (rw h) (rw h) k

    pub call-error : {f : Frame} {code : ℕ} {r : DatagramAnswer} {left : List ℕ} → a ≡ Error f code → Told 0 (reply_to f.kind code f.id []) s false c.out r left
        → Left (datagram_of s image c) c.out r c.answers image left
    unfolding done_as is_served replied
    call-error h k = told (rw h) (rw h) k

    abbrev Shows : Frame → Wanted → DatagramAnswer → List ℕ → Type 0
    Shows f w r left =
        Told 0 (reply_to f.kind (got_of s c.bytes c.store f c.time w).code f.id (got_of s c.bytes c.store f c.time w).body) s false c.out r left

    pub call-index : {f : Frame} {r : DatagramAnswer} {left : List ℕ} → a ≡ Index f → Shows f TheIndex r left
        → Left (datagram_of s image c) c.out r c.answers image left
    unfolding done_as got is_served replied
    call-index h k = told (rw h) (rw h) k

    pub call-record : {f : Frame} {id : ℕ} {r : DatagramAnswer} {left : List ℕ} → a ≡ Record f id → Shows f (OneRecord id) r left
        → Left (datagram_of s image c) c.out r c.answers image left
    unfolding done_as got is_served replied
    call-record h k = told (rw h) (rw h) k

    pub call-records : {f : Frame} {r : DatagramAnswer} {left : List ℕ} → a ≡ Records f → Shows f SomeRecords r left
        → Left (datagram_of s image c) c.out r c.answers image left
    unfolding done_as got is_served replied
    call-records h k = told (rw h) (rw h) k

    -- a GET that asks for a delay
    pub call-later : {f : Frame} {r : DatagramAnswer} {lent : List ℕ} → a ≡ Later f
        → (r ≡ record {
          outcome = 0;
          len = 0;
          state = with_waiting s (waiting_as s.waiting kept_call f.options (request_of c.bytes f).asks);
          padded = false;
        }) × (lent ≡ answers_as s.waiting kept_call f.options (request_of c.bytes f).asks)
        → Left (datagram_of s image c) c.out r lent image c.out
    unfolding done_as later_done
    call-later h k = quiet (rw h) refl k.0 k.1 refl

    -- a POST that finds no place
    pub call-shut : {f : Frame} {p : List ℕ} {delayed : Bool} {r : DatagramAnswer} → a ≡ Post f delayed → p ≡ payload_in f
        → shut_out delayed s.waiting p ≡ true → r ≡ record { outcome = 0; len = 0; state = s; padded = false }
        → Left (datagram_of s image c) c.out r c.answers image c.out
    unfolding done_as
    call-shut {f} {p} {delayed} h q z k = quiet (rw h (shut-done f delayed (rw q at z))) refl k refl refl

    -- a POST that may run: its front ran, and what is left of it
    module _ {f : Frame} {p : List ℕ} {delayed : Bool} (h : a ≡ Post f delayed) (q : p ≡ payload_in f) {b : Begun} {flash : List ℕ}
        (g : BegunBy s.images s.assigned.groups s.device.signed_posts s.device.refuse_padding image p c.time c.verdict b flash) where
      abbrev after : State
      after = record { device = s.device; images = b.images; assigned = s.assigned; registration = s.registration; waiting = s.waiting }

      abbrev from : ℕ → Posted
      from code = posted_from s.device (world_with b.images s.registration flash) p b.at code b.padded

      post_is : post_in s image c p ≡ from b.code
      post_is = g.post s.device s.registration refl refl

      post-done : delayed ≡ false → done_as a ≡ replied f c (served_post s (from b.code))
      unfolding done_as post_done
      post-done n = rw (h, n, ← q) (ap (λ x. replied f c (served_post s x)) post_is)

      pub call-posted : {r : DatagramAnswer} {left : List ℕ} → delayed ≡ false → length p ≤ b.at
          → Told 0 (reply_to f.kind b.code f.id []) after b.padded c.out r left
          → Left (datagram_of s image c) c.out r c.answers flash left
      unfolding is_served replied ran responses
      call-posted n l k = told (rw h) (post-done n ∙ rw (at-end p b.at l)) k

      pub call-acted : {r : DatagramAnswer} {last left : List ℕ} → delayed ≡ false → b.at < length p
          → (length (records_at p b.at) ≤ 24 → Received f (served_post after (from 65)) c.out r last left)
          → Left (datagram_of s image c) c.out r c.answers last left
      unfolding is_served replied
      call-acted n l k =
          let x = k g.few in
          let z : is_served a ≡ true = rw h in
          rw (call-done, ← e, post-done n, g.created l)
          (record {
            answer = sent-appended x.outcome x.state x.reply x.small (roomy (rw e at z));
            padded = x.padded;
            answers = refl;
            image = x.image;
          })

      -- one that asks for a delay
      late-done : delayed ≡ true → shut_out delayed s.waiting p ≡ false → done_as a ≡ ran_as f (from b.code)
      unfolding done_as post_done
      late-done y n =
          let x : done_as a ≡ ran_as f (post_in s image c (payload_in f)) = rw (h, y) (ran-as f (judgement f) refl (rw (y, q) at n)) in
          x ∙ ap (ran_as f) (ap (λ x. post_in s image c x) (sym q) ∙ post_is)

      pub call-late : {r : DatagramAnswer} {lent last : List ℕ} → delayed ≡ true → shut_out delayed s.waiting p ≡ false
          → (length (records_at (payload_in f) b.at) ≤ 24
          → ActedLate after kept_call f.options (posted_from s.device (world_with b.images s.registration flash) (payload_in f) b.at 65 b.padded) r lent last)
          → Left (datagram_of s image c) c.out r lent last c.out
      unfolding ran_as
      call-late {r} {lent} {last} y n k =
          let x =
          subst (λ (l : List ℕ). length (records_at l b.at) ≤ 24
          → ActedLate after kept_call f.options (posted_from s.device (world_with b.images s.registration flash) l b.at 65 b.padded) r lent last)
          (sym q) k g.few in
          quiet (late-done y n) refl x.answer x.answers x.image
