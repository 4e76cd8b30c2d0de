-- What `specs/Answers.antt` states.
use Rattle.std.specs.Prelude.{Result, Ok, Err, None, Option, Some}
use Prim.Native.Nat.{ℕ, zero, suc, ◌≤◌, ◌<◌}
use mathlib.Core.Path.{◌≡◌, refl, sym, ap, subst, ◌∙◌}
use mathlib.Core.List.{List, [], ◌∷◌}
use mathlib.Core.Bool.{Bool, true, false, not}
use native.Mathlib.Omega.{arith}
use borrow.Author.Tests.{ne_eqb, ltb-true, ltb-false}
use lib.Dec.{eqb, ltb}
use lib.ListN.{length, drop, get_or-append}
use Rattle.ack.specs.Take.{accepted_by, acknowledged}
use Rattle.buffer.proofs.Tests.{split, pick-both}
use Rattle.class.specs.Class.{class_of}
use Rattle.class.specs.declared.Class.{Class}
use Rattle.class.specs.declared.Class.TheVariants.{Request, Acknowledgement, Rejected, Ignored}
use Rattle.coap.specs.Frame.{frame_of}
use Rattle.coap.specs.declared.FrameError.{FrameError}
use Rattle.coap.specs.declared.FrameError.TheVariants.{Malformed, Foreign}
use Rattle.coap.specs.declared.Frame.{Frame}
use Rattle.decimal.specs.Ids.{no_ids, held as listed}
use Rattle.outgoing.specs.Sent.{registration_sent, report_sent}
use Rattle.outgoing.specs.declared.Report.{Report}
use Rattle.refusal.specs.Refusal.{own_refusal}
use Rattle.registration.specs.Round.{id_taken, round_taken}
use Rattle.request.proofs.Judged.{asked-records}
use Rattle.request.specs.Options.{parts, asked_of}
use Rattle.request.specs.Request.{request_of}
use Rattle.request.specs.declared.Asks.{Asks}
use Rattle.request.specs.declared.Asks.TheVariants.{Error, Post as Posting, Index, Record, Records}
use Rattle.run.specs.Post.{posted_as, judged_at, posted}
use Rattle.schedule.specs.declared.Length.{Length}
use Rattle.schedule.specs.declared.Point.{Point}
use Rattle.state.specs.Setup.{free_at, valid_texts, valid_settings, first_state, blank_state, setup_of}
use Rattle.state.specs.Waiting.{place_at}
use Rattle.state.specs.declared.Delayed.{Delayed}
use Rattle.state.specs.declared.State.{State}
use Rattle.state.specs.declared.Waiting.{Waiting}
use Rattle.state.specs.declared.What.{What}
use Rattle.state.specs.declared.What.TheVariants.{Responses}
use Rattle.state.specs.declared.setup.Settings.{Settings}
use Rattle.state.specs.declared.setup.Setup.{Setup}
use Rattle.tlv.specs.Record.{records}
use Rattle.waiting.proofs.Bytes.{kept-length}
use Rattle.waiting.proofs.Laws.{due-cases}
use Rattle.waiting.proofs.Theorems.{keeps-bytes}
use Rattle.waiting.specs.Sized.{WaitingSized}
use Rattle.waiting.specs.Waiting.{is_full, held_in, kept, kept_bytes, without, due_of, left_by}
use Rattle.waiting.specs.declared.Due.{Due}
use Rattle.calls.specs.Answers.{Lent, set, called, rounded, reported, booted, padding, due, FromRun, AnswersHeld, ListMoves}
use Rattle.calls.specs.Boot.{boot_of}
use Rattle.calls.specs.Datagram.{Call, Effect, world_in, with_world, post_in, refusal, served_as, served, replied, ids_by, ids_from, waiting_with, answers_with, with_waiting, keeps, classed, received, datagram_of}
use Rattle.calls.specs.Due.{Dispatch, dispatched, dispatch_of, answer_due}
use Rattle.calls.specs.Made.{Made, set as first, called as met, rounded as joined, reported as told, booted as reborn, padding as strict, due as sent}
use Rattle.calls.specs.Own.{round_of, reports, report_of}
use Rattle.calls.specs.Padding.{refusing_padding}
use Rattle.calls.proofs.AckSizes.{by-taken}
use Rattle.calls.proofs.Groups.{own-leaves}
use Rattle.calls.proofs.Late.{requested-by, silently}
use Rattle.calls.proofs.Sizes.{made-sized}
use Rattle.calls.proofs.WaitSizes.{url-short, ids-fit, body-short}

-- setup and calls make the states that have a buffer
lent-made : {s : State} {answers : List ℕ} → Lent s answers → Made s
lent-made (set hw vendor running url s e answers l) = first hw vendor running url s e
lent-made (called l image c e) = met (lent-made l) image c
lent-made (rounded l out store time) = joined (lent-made l) out store time
lent-made (reported l out store time which) = told (lent-made l) out store time which
lent-made (booted l) = reborn (lent-made l)
lent-made (padding l on) = strict (lent-made l) on
lent-made (due {s} {answers} l out store time) = sent (lent-made l) answers out store time

-- every answer for responses that waits holds those of a run, in a buffer of the right length
abbrev Runs : List ℕ → Delayed → Type 0
Runs answers d = d.what ≡ Responses → FromRun (held_in d answers)

abbrev Held : Waiting → List ℕ → Type 0
Held w answers = (i : ℕ) → i < w.count → Runs answers (place_at w.list i)

abbrev Holding : Waiting → List ℕ → Type 0
Holding w answers = (length answers ≡ 4736) × Held w answers

-- an answer is kept: its own bytes are there, and those of the others
module _ (w : Waiting) (answers : List ℕ) (from : Point) (wait : Length) (what : What) (url bytes : List ℕ) where
  kept-held : WaitingSized w → length url ≤ 128 → length bytes ≤ 1056 → (what ≡ Responses → FromRun bytes) → Holding w answers → is_full w ≡ false
      → Held (kept w from wait what url bytes) (kept_bytes w answers url bytes)
  kept-held k u b r h f i l =
      let n = kept w from wait what url bytes in
      let a = kept_bytes w answers url bytes in
      let q = keeps-bytes.free w answers from wait what url bytes k f h.0 u b in
      split (ltb i w.count)
      (λ t. let j = ltb-true i w.count t in
      subst (Runs a) (sym (q.places i j)) (λ e. subst FromRun (sym (q.others i j)) (h.1 i j e)))
      (λ t. let j : w.count ≡ i = (let z = ltb-false i w.count t in let y = q.count in omega arith) in
      subst (λ (x : ℕ). Runs a (place_at n.list x)) j (λ e. subst FromRun (sym q.own) (r (sym (ap (λ (d : Delayed). d.what) q.answer) ∙ e))))

  -- where none is free, nothing changes
  kept_full : Holding w answers → is_full w ≡ true → Held (kept w from wait what url bytes) (kept_bytes w answers url bytes)
  unfolding kept kept_bytes
  kept_full h f = rw f h.1

  kept-holds : WaitingSized w → length url ≤ 128 → length bytes ≤ 1056 → (what ≡ Responses → FromRun bytes) → Holding w answers
      → Holding (kept w from wait what url bytes) (kept_bytes w answers url bytes)
  kept-holds k u b r h = (kept-length w answers url bytes ∙ h.0, split (is_full w) (kept_full h) (kept-held k u b r h))

-- one is taken out: the others were among those held
without-place : (P : Delayed → Type 0) (l : List Delayed) (i j : ℕ) → suc j < length l → P (place_at l j) → P (place_at l (suc j)) → P (place_at (without l i) j)
unfolding without
without-place P [] i j h a b = absurd (omega arith)
without-place P (d ∷ ds) zero j h a b = subst P (sym (get_or-append ds (d ∷ []) (free_at 0) j (omega arith))) b
without-place P (d ∷ ds) (suc i) zero h a b = a
without-place P (d ∷ ds) (suc i) (suc j) h a b = without-place P ds i j (omega arith) a b

left-held : (w : Waiting) (time : Point) (answers : List ℕ) → WaitingSized w → Held w answers → Held (left_by w (due_of w time)) answers
unfolding left_by
left-held w time answers k h =
    due-cases w time (λ (d : Option Due). Held (left_by w d) answers) (λ _. h) (λ _. h)
    (λ p _ j l.
    let z = k.count in
    without-place (Runs answers) w.list _ j (omega (arith, k.list)) (h j (omega arith)) (h (suc j) (omega arith)))

-- after setup none waits
setup-holds : (hw vendor running url : List ℕ) (s : Settings) (answers : List ℕ) → Held (setup_of hw vendor running url s).state.waiting answers
unfolding setup_of first_state blank_state
setup-holds hw vendor running url s answers =
    let P : Setup → Type 0 = λ x. Held x.state.waiting answers in
    pick-both P (valid_texts hw vendor running url) _ _
    (λ _. pick-both P (valid_settings s) _ _ (λ _ i l. absurd (omega arith)) (λ _ i l. absurd (omega arith)))
    (λ _ i l. absurd (omega arith))

-- a datagram
module _ (s : State) (image : List ℕ) (c : Call) (k : WaitingSized s.waiting) (h : Holding s.waiting c.answers) where
  abbrev Leaves : Effect → Type 0
  Leaves e = Holding e.state.waiting e.answers

  -- the responses of a POST
  body-runs : (p : List ℕ) → judged_at s.device s.assigned.groups p c.time c.verdict ≡ Ok tt → FromRun (post_in s image c p).body
  unfolding posted posted_as
  body-runs p j = rw j (s.device, world_in s image, records p, refl)

  keeps-holds : (x : State) → x.waiting ≡ s.waiting → (left : List ℕ) (f : Frame) (what : What) (bytes : List ℕ) (padded : Bool)
      → length bytes ≤ 1056 → (what ≡ Responses → FromRun bytes) → Leaves (keeps x left c f what bytes padded)
  unfolding keeps waiting_with answers_with
  keeps-holds x e left f what bytes padded b r =
      rw e (kept-holds s.waiting c.answers _ _ what _ bytes k (url-short c.bytes f.options) b r h)

  served-holds : (payload ids : List ℕ) (a : Asks) → Holding (served_as s image c payload ids a).state.waiting c.answers
  unfolding served_as
  served-holds payload ids (Error code) = h
  served-holds payload ids Posting = h
  served-holds payload ids Index = h
  served-holds payload ids (Record id) = h
  served-holds payload ids Records = h

  classed-holds : (f : Frame) (x : Class) → Leaves (classed s image c f x)
  unfolding classed replied served accepted_by
  classed-holds f Request =
      let p = drop f.payload c.bytes in
      requested-by Leaves s image c f
      (λ _. served-holds p (listed (request_of c.bytes f).ids) (request_of c.bytes f).asks)
      (λ _. silently Leaves s image c f h (λ _. h)
      (λ j. keeps-holds (with_world s (post_in s image c p).world) refl _ f Responses _ _ (body-short s image c p j) (λ _. body-runs p j))
      (keeps-holds s refl image f _ [] false (omega arith) (λ e. let z : ◌≡◌ {A = ℕ} 0 1 = cc in absurd (omega arith)))
      (λ id. keeps-holds s refl image f _ [] false (omega arith) (λ e. let z : ◌≡◌ {A = ℕ} 0 1 = cc in absurd (omega arith)))
      (λ a. keeps-holds s refl image f _ _ false (ids-fit c.bytes f a) (λ e. let z : ◌≡◌ {A = ℕ} 0 1 = cc in absurd (omega arith))))
  classed-holds f Acknowledgement =
      by-taken s f.id (drop f.payload c.bytes) c.time c.verdict (λ (x : State). Holding x.waiting c.answers) h (λ _. h) (λ _ _. h)
  classed-holds f Rejected = h
  classed-holds f Ignored = h

  received-holds : (m : Result Frame FrameError) → Leaves (received s image c m)
  unfolding received
  received-holds (Ok f) = classed-holds f (class_of f.kind f.code)
  received-holds (Err (Malformed kind id)) = h
  received-holds (Err Foreign) = h

  datagram-holds : Leaves (datagram_of s image c)
  unfolding datagram_of
  datagram-holds = pick-both Leaves (eqb (refusal s image c) 0) _ _ (λ _. received-holds (frame_of c.bytes)) (λ _. h)

-- calls that leave the answers that wait
round-leaves : (s : State) (out : ℕ) (store : List ℕ) (time : Point) → (round_of s out store time).state.waiting ≡ s.waiting
unfolding round_of
round-leaves s out store time =
    own-leaves (λ (x : State). x.waiting) s (round_taken s.device s.registration) refl
    (own_refusal out store (not s.registration.accepted) 8) (registration_sent s store time)

report-leaves : (s : State) (out : ℕ) (store : List ℕ) (time : Point) (which : Report) → (report_of s out store time which).state.waiting ≡ s.waiting
unfolding report_of
report-leaves s out store time which =
    own-leaves (λ (x : State). x.waiting) s (id_taken s.registration) refl (own_refusal out store (reports s which) 9) (report_sent s store time)

boot-leaves : (s : State) → (boot_of s).waiting ≡ s.waiting
unfolding boot_of
boot-leaves s = refl

padding-leaves : (s : State) (on : Bool) → (refusing_padding s on).waiting ≡ s.waiting
unfolding refusing_padding
padding-leaves s on = refl

-- the call that sends an answer
abbrev Remains : List ℕ → Dispatch → Type 0
Remains answers d = Held d.state.waiting answers

dispatched-holds : (s : State) (answers url bs : List ℕ) → Held s.waiting answers → Remains answers (dispatched s url bs)
unfolding dispatched
dispatched-holds s answers url [] h = h
dispatched-holds s answers url (b ∷ bs) h = h

due-holds : (s : State) (answers : List ℕ) → WaitingSized s.waiting → Held s.waiting answers → (out : ℕ) (store : List ℕ) (time : Point)
    → Remains answers (answer_due s answers out store time)
unfolding answer_due dispatch_of left_by
due-holds s answers k h out store time =
    pick-both (Remains answers) (eqb (own_refusal out store true 0) 0) _ _
    (λ _. go (due_of s.waiting time) (left-held s.waiting time answers k h)) (λ _. h)
  where
    go : (d : Option Due) → Held (left_by s.waiting d) answers → Remains answers (dispatch_of s answers store time d)
    go None w = h
    go (Some d) w = dispatched-holds (with_waiting s d.left) answers _ _ w

-- so it is for every state and the buffer that the calls left
lent-sized : {s : State} {answers : List ℕ} → Lent s answers → WaitingSized s.waiting
lent-sized {s} l = (made-sized s (lent-made l)).waiting

leaves : (answers : List ℕ) {v w : Waiting} → v ≡ w → Holding w answers → Holding v answers
leaves answers e h = subst (λ (x : Waiting). Holding x answers) (sym e) h

lent-holds : {s : State} {answers : List ℕ} → Lent s answers → Holding s.waiting answers
lent-holds (set hw vendor running url s e answers l) = (l, setup-holds hw vendor running url s answers)
lent-holds (called {s} l image c e) =
    datagram-holds s image c (lent-sized l) (subst (λ (x : List ℕ). Holding s.waiting x) (sym e) (lent-holds l))
lent-holds (rounded {s} {answers} l out store time) = leaves answers (round-leaves s out store time) (lent-holds l)
lent-holds (reported {s} {answers} l out store time which) = leaves answers (report-leaves s out store time which) (lent-holds l)
lent-holds (booted {s} {answers} l) = leaves answers (boot-leaves s) (lent-holds l)
lent-holds (padding {s} {answers} l on) = leaves answers (padding-leaves s on) (lent-holds l)
lent-holds (due {s} {answers} l out store time) =
    let h = lent-holds l in
    (h.0, due-holds s answers (lent-sized l) h.1 out store time)

-- the ids of a query are those of the text that is kept
text-ids : (bytes : List ℕ) (f : Frame) → (request_of bytes f).asks ≡ Records → asked_of no_ids (parts (ids_from bytes f.options)) ≡ (request_of bytes f).ids
unfolding ids_from ids_by
text-ids bytes f e = let r = asked-records bytes f e in rw r.2 (sym r.3)

pub answers-held : AnswersHeld
answers-held = record { made = λ s answers l. lent-made l; responses = λ s answers l. (lent-holds l).1; ids = text-ids }

-- the call that sends an answer takes out what is due, or nothing
dispatched-leaves : (s : State) (url bs : List ℕ) → (dispatched s url bs).state.waiting ≡ s.waiting
unfolding dispatched
dispatched-leaves s url [] = refl
dispatched-leaves s url (b ∷ bs) = refl

dispatch-left : (s : State) (answers store : List ℕ) (time : Point)
    → (dispatch_of s answers store time (due_of s.waiting time)).state.waiting ≡ left_by s.waiting (due_of s.waiting time)
unfolding dispatch_of left_by
dispatch-left s answers store time =
    due-cases s.waiting time (λ (d : Option Due). (dispatch_of s answers store time d).state.waiting ≡ left_by s.waiting d) (λ _. refl) (λ _. refl)
    (λ _ _. dispatched-leaves _ _ _)

taken-leaves : (s : State) (id : ℕ) (p : List ℕ) (time : Point) (verdict : ℕ) → (acknowledged s id p time verdict).waiting ≡ s.waiting
unfolding accepted_by
taken-leaves s id p time verdict = by-taken s id p time verdict (λ (x : State). x.waiting ≡ s.waiting) refl (λ _. refl) (λ _ _. refl)

pub list-moves : ListMoves
unfolding answer_due
list-moves =
    record {
      due = λ s answers out store time h. rw h (dispatch-left s answers store time);
      refused = λ s answers out store time h. rw (ne_eqb (own_refusal out store true 0) 0 h);
      answered = taken-leaves;
      rounded = round-leaves;
      reported = report-leaves;
      booted = boot-leaves;
    }
