-- What `specs/Text.antt` states.
use Rattle.std.specs.Prelude.{None, Option, Some, Result, Ok, Err}
use Rattle.post.specs.Judge.{Judgement}
use Prim.Native.Nat.{ℕ}
use mathlib.Core.Path.{◌≡◌, refl, sym, subst}
use mathlib.Core.List.{List, [], ◌∷◌, ◌++◌, map}
use mathlib.Core.Bool.{Bool, true, not}
use native.Mathlib.Omega.{arith}
use borrow.Author.Tests.{eqb-true}
use lib.Dec.{eqb, ltb}
use lib.ListN.{length, take, drop}
use Rattle.buffer.specs.Pick.{pick}
use Rattle.buffer.proofs.Tests.{pick-both}
use Rattle.class.specs.Class.{class_of}
use Rattle.class.specs.declared.Class.{Class}
use Rattle.class.specs.declared.Class.TheVariants.{Request, Acknowledgement, Rejected, Ignored}
use Rattle.coap.specs.Frame.{frame_of}
use Rattle.coap.specs.Write.{registration_head, report_head}
use Rattle.coap.specs.declared.FrameError.{FrameError}
use Rattle.coap.specs.declared.FrameError.TheVariants.{Malformed, Foreign}
use Rattle.coap.specs.declared.Frame.{Frame}
use Rattle.copy.specs.Shown.{shown_of}
use Rattle.copy.specs.declared.Choice.TheVariants.{Only, Except}
use Rattle.csmp.specs.Tables.{response as response_table}
use Rattle.csmp.specs.Values.{moment_number}
use Rattle.csmp.specs.declared.Hash.{Hash}
use Rattle.decimal.specs.Decimal.{decimal}
use Rattle.decimal.specs.Ids.{no_ids, held}
use Rattle.encode.specs.Write.{session_record}
use Rattle.encode_image.specs.Write.{response_record}
use Rattle.get.specs.Get.{Content, content, index_got, record_got, records_got}
use Rattle.index.specs.Index.{ids_there}
use Rattle.outgoing.specs.Sent.{sendable, session_shown, device_id, known_to, registration_sent, report_sent, head_of, answer_sent}
use Rattle.own.specs.Own.{own_records}
use Rattle.protobuf.specs.Given.{if_given}
use Rattle.protobuf.specs.Write.{if_any}
use Rattle.refusal.specs.Refusal.{refusal_of, own_refusal}
use Rattle.registration.specs.Round.{id_taken, round_taken}
use Rattle.reply.specs.Reply.{reply_to, reset_to}
use Rattle.request.specs.Options.{parts, asked_of}
use Rattle.request.specs.Request.{request_of}
use Rattle.request.specs.declared.Asks.{Asks}
use Rattle.request.specs.declared.Asks.TheVariants.{Error, Post as Posting, Index, Record, Records}
use Rattle.run.specs.Post.{posted_as, judged_at, posted}
use Rattle.run.specs.Run.{responses}
use Rattle.schedule.specs.declared.Point.{Point}
use Rattle.state.specs.Groups.{held_pairs}
use Rattle.state.specs.declared.Assigned.{Assigned}
use Rattle.state.specs.declared.Delayed.{Delayed}
use Rattle.state.specs.declared.Device.{Device}
use Rattle.state.specs.declared.Registration.{Registration}
use Rattle.state.specs.declared.State.{State}
use Rattle.state.specs.declared.What.{What}
use Rattle.state.specs.declared.What.TheVariants.{Index as AnIndex, Record as ARecord, Records as SomeRecords, Responses}
use Rattle.step.specs.Step.{World, act, response}
use Rattle.store.specs.Store.{acceptable}
use Rattle.tables.specs.Statements.{Texts}
use Rattle.tables.specs.Table.{Table, Values, written as row_written, write_by}
use Rattle.tlv.specs.Record.{Tlv, records, record_bytes}
use Rattle.waiting.proofs.Theorems.{takes-earliest}
use Rattle.waiting.specs.Waiting.{held_in, due_of}
use Rattle.waiting.specs.declared.Due.{Due}
use Rattle.calls.specs.Answers.{Lent, FromRun}
use Rattle.calls.specs.Datagram.{Call, Effect, world_in, refusal, served_as, served, replied, with_waiting, keeps, classed, received, datagram_of}
use Rattle.calls.specs.Due.{Dispatch, records_of, dispatched, datagram_for, dispatch_of, answer_due, undispatched}
use Rattle.calls.specs.Made.{AssignedSized, Sized}
use Rattle.calls.specs.Own.{Sending, sending, sending_if, round_of, reports, report_of}
use Rattle.calls.specs.Text.{table_of, Carries, nothing, copied, written, both, Replies, silent, resets, answers}
use Rattle.calls.specs.Text.{Sends, unsent, sent, TextOnly}
use Rattle.calls.proofs.Answers.{answers-held}
use Rattle.calls.proofs.Copied.{own-carries, shown-carries, all-shown-carry}
use Rattle.calls.proofs.Late.{requested-by, silently}
use Rattle.calls.proofs.Sizes.{made-sized}
use Rattle.calls.proofs.Stored.{stored_other}
use Rattle.calls.proofs.OwnTexts.{report-own, time-own, groups-own, records-own, index-texts}

module _ (store : List ℕ) where
  -- a record by the table that is its type's
  by-table : (k : ℕ) (T : Table) → table_of k ≡ T → (v : Values T) → Texts T v → Carries store (record_bytes k (write_by T v))
  by-table k T e = subst (λ (X : Table). (v : Values X) → Texts X v → Carries store (record_bytes k (write_by X v))) e (written k)

  -- responses have no strings; one with no load time is what its own table writes
  answered : (k : ℕ) → table_of k ≡ response_table → (h : Hash) (answer : ℕ) → Carries store (response_record k h answer None)
  unfolding response_record moment_number write_by row_written if_any
  answered k e h answer = by-table k response_table e (if_given h.given h.bytes, (Some answer, tt)) (tt, (tt, tt))

  loaded : (h : Hash) (answer : ℕ) (time : Option Point) → Carries store (response_record 72 h answer time)
  unfolding response_record
  loaded h answer time = written 72 (if_given h.given h.bytes, (Some answer, (moment_number time, tt))) (tt, (tt, (tt, tt)))

  response-carries : (d : Device) (w : World) (k : ℕ) (v : List ℕ) → Carries store (response d w k v)
  unfolding response
  response-carries d w k v =
      pick-both (Carries store) (eqb k 65) _ _ (λ _. answered 71 refl _ _)
      (λ _. pick-both (Carries store) (eqb k 68) _ _ (λ _. loaded _ _ _)
      (λ _. pick-both (Carries store) (eqb k 69) _ _ (λ _. answered 73 refl _ _)
      (λ _. pick-both (Carries store) (eqb k 70) _ _ (λ _. answered 74 refl _ _) (λ _. nothing))))

  -- those of a POST's records
  responses-carry : (d : Device) (w : World) (ts : List Tlv) → Carries store (responses d w ts)
  unfolding responses
  responses-carry d w [] = nothing
  responses-carry d w (t ∷ ts) = both (response-carries d w t.kind t.value) (responses-carry d (act d w t.kind t.value) ts)

  posted-carries : (d : Device) (w : World) (p : List ℕ) (b : Bool) (j : Judgement) → Carries store (posted_as d w p b j).body
  unfolding posted_as
  posted-carries d w p b (Err code) = nothing
  posted-carries d w p b (Ok tt) = responses-carry d w (records p)

  -- a GET's payload, if it is not too long
  content-carries : {bs : List ℕ} → Carries store bs → Carries store (content bs).body
  unfolding content
  content-carries {bs} k = pick-both (λ (c : Content). Carries store c.body) (ltb 1273 (length bs)) _ _ (λ _. nothing) (λ _. k)

  -- 7
  session-carries : (a : Assigned) → AssignedSized a → Carries store (session_shown a)
  unfolding session_shown session_record
  session-carries a k =
      pick-both (Carries store) a.in_session _ _
      (λ _. written 7 (Some (take a.session.len a.session.bytes), tt) (k.text, tt)) (λ _. nothing)

  module _ (ok : acceptable store ≡ true) (s : State) (k : Sized s) where
    -- by what is asked
    index-carries : (time : Point) → Carries store (index_got s store time).body
    unfolding index_got
    index-carries time =
        let own = own_records s time in
        content-carries (written 1 (map decimal (ids_there store own), tt) (index-texts store own, tt))

    record-carries : (time : Point) (id : ℕ) → Carries store (record_got s store time id).body
    unfolding record_got
    record-carries time id =
        pick-both (λ (c : Content). Carries store c.body) (eqb (length (shown_of store (own_records s time) id)) 0) _ _
        (λ _. nothing) (λ _. content-carries (shown-carries store ok (records-own s time k) id))

    records-carry : (time : Point) (ids : List ℕ) → Carries store (records_got s store time ids).body
    unfolding records_got
    records-carry time ids = content-carries (all-shown-carry store ok (records-own s time k) ids)

    -- what a registration tells
    known-carries : (time : Point) → Carries store (known_to s store time)
    unfolding known_to
    known-carries time =
        both (own-carries store (time-own time))
        (both (session-carries s.assigned k.assigned)
        (both (own-carries store (groups-own (held_pairs s.assigned.groups)))
        (both (own-carries store (report-own s.assigned k.assigned)) (copied ok (Except 2)))))

-- a call that is not refused was lent an acceptable store
abbrev Acceptable : List ℕ → ℕ → Type 0
Acceptable store n = n ≡ 0 → acceptable store ≡ true

called-acceptable : (s : State) (image : List ℕ) (c : Call) → Acceptable c.store (refusal s image c)
unfolding refusal refusal_of
called-acceptable s image c =
    let P = Acceptable c.store in
    pick-both P (ltb (length c.out) 1280) _ _ (λ _ e. absurd (omega arith))
    (λ _. pick-both P (eqb (length image) s.device.image_len) _ _
    (λ _. pick-both P (ltb 2 c.verdict) _ _ (λ _ e. absurd (omega arith))
    (λ _. pick-both P (acceptable c.store) _ _ (λ a _. a) (λ _ e. absurd (omega arith)))) (λ _ e. absurd (omega arith)))

own-acceptable : (out : ℕ) (store : List ℕ) (due : Bool) (number : ℕ) → Acceptable store (own_refusal out store due number)
unfolding own_refusal
own-acceptable out store due number =
    pick-both (Acceptable store) (ltb out 1280) _ _ (λ _ e. absurd (omega arith))
    (λ _. pick-both (Acceptable store) (acceptable store) _ _ (λ a _. a) (λ _ e. absurd (omega arith)))

-- a reply, if one is due
module _ (s : State) (image : List ℕ) (c : Call) (k : Sized s) where
  abbrev Replied : Effect → Type 0
  Replied e = Replies c.store e.reply

  served-carries : acceptable c.store ≡ true → (payload ids : List ℕ) (a : Asks) → Carries c.store (served_as s image c payload ids a).body
  unfolding served_as posted
  served-carries ok payload ids (Error code) = nothing
  served-carries ok payload ids Posting =
      posted-carries c.store s.device (world_in s image) payload _ (judged_at s.device s.assigned.groups payload c.time c.verdict)
  served-carries ok payload ids Index = index-carries c.store ok s k c.time
  served-carries ok payload ids (Record id) = record-carries c.store ok s k c.time id
  served-carries ok payload ids Records = records-carry c.store ok s k c.time ids

  classed-replies : acceptable c.store ≡ true → (f : Frame) (x : Class) → Replied (classed s image c f x)
  unfolding classed replied served reply_to keeps
  classed-replies ok f Request =
      let r = request_of c.bytes f in
      requested-by Replied s image c f
      (λ _. pick-both (Replies c.store) (eqb f.kind 0) _ _
      (λ _. answers _ f.id (served-carries ok (drop f.payload c.bytes) (held r.ids) r.asks))
      (λ _. silent))
      (λ _. silently Replied s image c f silent (λ _. silent) (λ _. silent) silent (λ _. silent) (λ _. silent))
  classed-replies ok f Acknowledgement = silent
  classed-replies ok f Rejected = resets f.id
  classed-replies ok f Ignored = silent

  received-replies : acceptable c.store ≡ true → (m : Result Frame FrameError) → Replied (received s image c m)
  unfolding received reset_to
  received-replies ok (Ok f) = classed-replies ok f (class_of f.kind f.code)
  received-replies ok (Err (Malformed kind id)) = pick-both (Replies c.store) (eqb kind 0) _ _ (λ _. resets id) (λ _. silent)
  received-replies ok (Err Foreign) = silent

  datagram-replies : Replied (datagram_of s image c)
  unfolding datagram_of
  datagram-replies =
      pick-both Replied (eqb (refusal s image c) 0) _ _
      (λ e. received-replies (called-acceptable s image c (eqb-true (refusal s image c) 0 e)) (frame_of c.bytes)) (λ _. silent)

-- a datagram of the agent's own, if it is not too long and the call is not refused
module _ (store head : List ℕ) where
  sendable-sends : {payload : List ℕ} → Carries store payload → Sends store head (sendable (head ++ payload))
  unfolding sendable
  sendable-sends {payload} k = pick-both (Sends store head) (ltb 1280 (length (head ++ payload))) _ _ (λ _. unsent) (λ _. sent k)

  module _ (s : State) (r : Registration) where
    sending-sends : (bs : List ℕ) → Sends store head bs → Sends store head (sending s r bs).sent
    unfolding sending
    sending-sends [] k = k
    sending-sends (b ∷ bs) k = k

    call-sends : (n : ℕ) (bs : List ℕ) → (n ≡ 0 → Sends store head bs) → Sends store head (sending_if s r n bs).sent
    call-sends n bs k = pick-both (λ (x : Sending). Sends store head x.sent) (eqb n 0) _ _ (λ e. sending-sends bs (k (eqb-true n 0 e))) (λ _. unsent)

module _ (s : State) (k : Sized s) (store : List ℕ) (time : Point) (ok : acceptable store ≡ true) where
  -- the agent's own datagrams
  registration-sends : Sends store (registration_head s.registration.message_id) (registration_sent s store time)
  unfolding registration_sent device_id
  registration-sends =
      let head = registration_head s.registration.message_id in
      pick-both (Sends store head) (eqb (length (device_id store)) 0) _ _ (λ _. unsent)
      (λ _. sendable-sends store head (both (copied ok (Only 2)) (known-carries store ok s k time)))

  report-sends : Sends store (report_head s.registration.message_id) (report_sent s store time)
  unfolding report_sent
  report-sends =
      sendable-sends store (report_head s.registration.message_id)
      (both (session-carries store s.assigned k.assigned)
      (both (own-carries store (time-own time)) (all-shown-carry store ok (records-own s time k) (held s.assigned.ids))))

  -- the records of a delayed answer: what a GET shows now, or responses that were kept
  kept-carry : (bytes : List ℕ) (what : What) → (what ≡ Responses → FromRun bytes) → Carries store (records_of s store time bytes what)
  unfolding records_of
  kept-carry bytes AnIndex r = index-carries store ok s k time
  kept-carry bytes (ARecord id) r = record-carries store ok s k time id
  kept-carry bytes SomeRecords r = records-carry store ok s k time (held (asked_of no_ids (parts bytes)))
  kept-carry bytes Responses r = let x = r refl in subst (Carries store) (sym x.3) (responses-carry store x.0 x.1 x.2)

  answer-sends : (named : Bool) (rs : List ℕ) → Carries store rs → Sends store (head_of named s.registration.message_id) (answer_sent s time named rs)
  unfolding answer_sent
  answer-sends named rs c =
      let head = head_of named s.registration.message_id in
      pick-both (Sends store head) s.assigned.in_session _ _
      (λ _. pick-both (Sends store head) (eqb (length rs) 0) _ _ (λ _. unsent)
      (λ _. sendable-sends store head (both (session-carries store s.assigned k.assigned) (both (own-carries store (time-own time)) c))))
      (λ _. unsent)

-- the answer that is due holds what was kept for it
due-runs : (s : State) (buffer : List ℕ) (time : Point) → Lent s buffer → (due : Due) → due_of s.waiting time ≡ Some due
    → due.answer.what ≡ Responses → FromRun (held_in due.answer buffer)
due-runs s buffer time l due t =
    let k = (made-sized s (answers-held.made s buffer l)).waiting in
    let x = takes-earliest.one s.waiting time k.list k.count due t in
    subst (λ (d : Delayed). d.what ≡ Responses → FromRun (held_in d buffer)) (sym x.1.answer) (answers-held.responses s buffer l x.0 x.1.held)

dispatched-sends : (store head : List ℕ) (s : State) (url bs : List ℕ) → Sends store head bs → Sends store head (dispatched s url bs).sent
unfolding dispatched
dispatched-sends store head s url [] k = k
dispatched-sends store head s url (b ∷ bs) k = k

due-sends : (s : State) (buffer : List ℕ) (out : ℕ) (store : List ℕ) (time : Point) → Lent s buffer
    → (named : Bool) × Sends store (head_of named s.registration.message_id) (answer_due s buffer out store time).sent
unfolding answer_due dispatch_of datagram_for
due-sends s buffer out store time l =
    go (due_of s.waiting time) refl
  where
    Goes : Dispatch → Type 0
    Goes x = (named : Bool) × Sends store (head_of named s.registration.message_id) x.sent

    go : (d : Option Due) → due_of s.waiting time ≡ d
        → Goes (pick (eqb (own_refusal out store true 0) 0) (dispatch_of s buffer store time d) (undispatched (own_refusal out store true 0) s))
    go None e = (true, pick-both (λ (x : Dispatch). Sends store (head_of true s.registration.message_id) x.sent) (eqb (own_refusal out store true 0) 0) _ _ (λ _. unsent) (λ _. unsent))
    go (Some d) t =
        let named = not (eqb d.answer.url 0) in
        let head = head_of named s.registration.message_id in
        let k = made-sized s (answers-held.made s buffer l) in
        let P : Dispatch → Type 0 = λ x. Sends store head x.sent in (
          named,
          pick-both P (eqb (own_refusal out store true 0) 0) _ _
              (λ e. let ok = own-acceptable out store true 0 (eqb-true _ 0 e) in
              dispatched-sends store head (with_waiting s d.left) _ _
              (answer-sends s k store time ok named _ (kept-carry s k store time ok (held_in d.answer buffer) d.answer.what (due-runs s buffer time l d t))))
              (λ _. unsent),
        )

pub text-only : TextOnly
unfolding round_of report_of
text-only =
    record {
      stored = stored_other;
      called = λ s image c m. datagram-replies s image c (made-sized s m);
      rounded =
          λ s out store time m.
          call-sends store (registration_head s.registration.message_id) s (round_taken s.device s.registration)
          (own_refusal out store (not s.registration.accepted) 8) _
          (λ e. registration-sends s (made-sized s m) store time (own-acceptable out store (not s.registration.accepted) 8 e));
      reported =
          λ s out store time which m.
          call-sends store (report_head s.registration.message_id) s (id_taken s.registration)
          (own_refusal out store (reports s which) 9) _
          (λ e. report-sends s (made-sized s m) store time (own-acceptable out store (reports s which) 9 e));
      dispatched = due-sends;
    }
