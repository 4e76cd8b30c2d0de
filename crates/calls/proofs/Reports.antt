-- What `specs/Report.antt` states.
use Rattle.std.specs.Prelude.{None, Option, Some}
use Prim.Native.Nat.{ℕ}
use mathlib.Core.Path.{◌≡◌, refl, sym, ap, ◌∙◌}
use mathlib.Core.List.{List, [], ◌∷◌}
use mathlib.Core.Bool.{Bool, true, false, ◌&&◌, and-false, true≢false}
use mathlib.Core.Logic.{◌⊎◌, inl, inr}
use borrow.Author.Tests.{leb-true}
use lib.Dec.{eqb, leb, ltb}
use lib.ListN.{length}
use Rattle.ack.specs.Take.{is_awaited, is_takable, accepted_by, taken_by, taken, acknowledged}
use Rattle.assign.specs.Assign.{in_session, with_session, with_report, regrouped}
use Rattle.buffer.specs.Pick.{pick}
use Rattle.buffer.specs.Stretch.{fits, stretch}
use Rattle.buffer.specs.Walk.{walk_for, walk}
use Rattle.buffer.proofs.Tests.{pick-both, both}
use Rattle.csmp.specs.Tables.{report_subscribe}
use Rattle.csmp.proofs.NamedLaws.{interval-same}
use Rattle.decimal.specs.Decimal.{ids_among}
use Rattle.decode.specs.Read.{session_of, group_of}
use Rattle.decode_report.specs.Report.{report_of as read_of}
use Rattle.decode_report.specs.Statements.{heartbeat_alone}
use Rattle.decode_report.proofs.Theorems.{report-read}
use Rattle.encode.specs.Write.{report_record}
use Rattle.learn.specs.Learn.{learnt_of, learnt_from, padded_in}
use Rattle.note.specs.Note.{reading_at, nothing_learnt, with_assigned, redirect_noted, session_noted, report_noted, with_regrouped, group_assigned, grouped, with_group, group_noted, validity_noted, signature_noted, noted}
use Rattle.note.specs.declared.Learnt.{Learnt}
use Rattle.own.specs.Own.{report_shown}
use Rattle.post.specs.Judge.{badly_signed}
use Rattle.protobuf.specs.Each.{Each}
use Rattle.protobuf.specs.Field.{numbered, held, spanned, content_at, of_tag, field_at, field_step, fields_from}
use Rattle.protobuf.specs.Given.{bytes_given}
use Rattle.protobuf.specs.Write.{if_any, each}
use Rattle.refusal.specs.Refusal.{own_refusal}
use Rattle.schedule.specs.declared.Point.{Point}
use Rattle.state.specs.declared.Assigned.{Assigned}
use Rattle.state.specs.declared.Device.{Device}
use Rattle.state.specs.declared.Groups.{Groups}
use Rattle.state.specs.declared.Registration.{Registration}
use Rattle.state.specs.declared.State.{State}
use Rattle.store.specs.Store.{acceptable}
use Rattle.tables.specs.Table.{contents, alike, last_one, value_of, values_of, read_by, held_tells, field_tells, all_readable, readable_to, readable, any_padded, padded_to, padded, written, write_by}
use Rattle.tlv.specs.Record.{of_value, of_kind, record_at, record_step, records_from, Tlv, records, readable as wholly, padded_among, record_bytes}
use Rattle.utf8.specs.Utf8.{behind, after, utf8_from, is_utf8}
use Rattle.varint.specs.Varint.{spelt, varint_at, of_stretch, of_length, delimited_at, spelling, varint, two, delimited}
use Rattle.calls.specs.Own.{Sending, unsent, reports, report_of}
use Rattle.calls.specs.Report.{subscription_shown, shown_after, FewEntries, SamePrimary, empty_report, HeartbeatRetired}
use Rattle.calls.proofs.AckSizes.{unlike, by-record, by-taken}
use Rattle.calls.proofs.AckNinth.{learnt-readable}
use Rattle.calls.proofs.Groups.{from-unaccepted}

-- a ReportSubscribe that can be read
of-report : (a : Assigned) (v : List ℕ) → (read_of v).reading.readable ≡ true → report_shown (with_report a v) ≡ subscription_shown v
unfolding report_shown with_report report_record subscription_shown
of-report a v h = rw ((report-read v).interval, (report-read v).ids h)

-- what is held goes by the interval and by tlvid
kept : (a : Assigned) (v w : List ℕ) → SamePrimary v w → with_report a v ≡ with_report a w
unfolding with_report read_of
kept a v w e = rw (interval-same _ _ ((report-read v).interval ∙ e.0 ∙ sym (report-read w).interval), e.1)

-- a session and groups leave what is shown
in-session-shown : (a : Assigned) (id : Option (List ℕ)) → report_shown (in_session a id) ≡ report_shown a
unfolding report_shown
in-session-shown a None = refl
in-session-shown a (Some id) = refl

regrouped-shown : (l : Learnt) (groups : Option Groups) → report_shown (with_regrouped l groups).assigned ≡ report_shown l.assigned
unfolding report_shown
regrouped-shown l None = refl
regrouped-shown l (Some groups) = refl

grouped-shown : (l : Learnt) (kind id : Option ℕ) → report_shown (grouped l kind id).assigned ≡ report_shown l.assigned
unfolding group_assigned
grouped-shown l None id = refl
grouped-shown l (Some kind) None = refl
grouped-shown l (Some kind) (Some id) =
    pick-both (λ (m : Learnt). report_shown m.assigned ≡ report_shown l.assigned) (leb 8 l.group_assigns) _ _ (λ _. refl)
    (λ _. regrouped-shown l (regrouped l.assigned.groups kind id))

-- one record, by its type
module _ (d : Device) (time : Point) where
  noted-shown : (l : Learnt) (k : ℕ) (v : List ℕ) → (noted d time l k v).readable ≡ true
      → report_shown (noted d time l k v).assigned ≡ pick (eqb k 13) (subscription_shown v) (report_shown l.assigned)
  unfolding redirect_noted session_noted with_session report_noted group_noted with_group validity_noted signature_noted
  noted-shown l k v =
      by-record d time l k v (λ (m : Learnt). m.readable ≡ true → report_shown m.assigned ≡ pick (eqb k 13) (subscription_shown v) (report_shown l.assigned))
      (λ e _. rw (unlike k 6 13 e refl))
      (λ e _. rw (unlike k 7 13 e refl) (in-session-shown l.assigned (bytes_given v (session_of v).id)))
      (λ e r. rw e (of-report l.assigned v (both l.readable _ r).1))
      (λ e _. rw (unlike k 55 13 e refl) (grouped-shown l (group_of v).kind (group_of v).id))
      (λ e _. rw (unlike k 76 13 e refl))
      (λ e _. rw (unlike k 77 13 e refl))
      (λ e _ _. rw e)

  learnt-shown : (l : Learnt) (ts : List Tlv) → (learnt_of d time l ts).readable ≡ true
      → report_shown (learnt_of d time l ts).assigned ≡ shown_after (report_shown l.assigned) ts
  unfolding learnt_of shown_after
  learnt-shown l [] r = refl
  learnt-shown l (t ∷ ts) r =
      let m = noted d time l t.kind t.value in
      learnt-shown m ts r ∙ ap (λ (w : List ℕ). shown_after w ts) (noted-shown l t.kind t.value (learnt-readable d time m ts r))

  from-shown : (r : Registration) (a : Assigned) (p : List ℕ) → (learnt_from d r a time p).readable ≡ true
      → report_shown (learnt_from d r a time p).assigned ≡ shown_after (report_shown a) (records p)
  unfolding learnt_from
  from-shown r a p =
      let l = learnt_of d time (nothing_learnt r a) (records p) in
      pick-both (λ (m : Learnt). m.readable ≡ true → report_shown m.assigned ≡ shown_after (report_shown a) (records p)) (wholly p) _ _
      (λ _. learnt-shown (nothing_learnt r a) (records p))
      (λ _ e. learnt-shown (nothing_learnt r a) (records p) (both l.readable false e).0)

-- a ReportSubscribe that was read
module _ (d : Device) (time : Point) where
  noted-few : (l : Learnt) (t : Tlv) → (noted d time l t.kind t.value).readable ≡ true → FewEntries t
  unfolding noted report_noted
  noted-few l t r e =
      let v = t.value in
      let x : (l.readable && (read_of v).reading.readable) ≡ true = rw e at r in
      let y = (both (readable report_subscribe v) _ (sym (report-read v).reading ∙ (both l.readable _ x).1)).1 in
      leb-true _ 32 (both (leb (length (read_by report_subscribe v).1.0) 32) _ y).1

  learnt-few : (l : Learnt) (ts : List Tlv) → (learnt_of d time l ts).readable ≡ true → Each FewEntries ts
  unfolding learnt_of
  learnt-few l [] r = tt
  learnt-few l (t ∷ ts) r =
      let m = noted d time l t.kind t.value in
      (noted-few l t (learnt-readable d time m ts r), learnt-few m ts r)

  from-few : (r : Registration) (a : Assigned) (p : List ℕ) → (learnt_from d r a time p).readable ≡ true → Each FewEntries (records p)
  unfolding learnt_from
  from-few r a p =
      let l = learnt_of d time (nothing_learnt r a) (records p) in
      pick-both (λ (m : Learnt). m.readable ≡ true → Each FewEntries (records p)) (wholly p) _ _ (λ _. learnt-few (nothing_learnt r a) (records p))
      (λ _ e. learnt-few (nothing_learnt r a) (records p) (both l.readable false e).0)

-- an acknowledgement
module _ (s : State) (id : ℕ) (p : List ℕ) (time : Point) (verdict : ℕ) where
  abbrev Checks : State → Type 0
  Checks x = (x ≡ s) ⊎ Each FewEntries (records p)

  checked : Checks (acknowledged s id p time verdict)
  checked =
      let few = from-few s.device time s.registration s.assigned p in
      by-taken s id p time verdict Checks (inl refl) (λ r. inr (few r)) (λ r _. inr (few r))

  abbrev Shows : State → Type 0
  Shows x = x.registration.accepted ≡ true → report_shown x.assigned ≡ shown_after (report_shown s.assigned) (records p)

  shown : s.registration.accepted ≡ false → Shows (acknowledged s id p time verdict)
  unfolding accepted_by
  shown unaccepted =
      by-taken s id p time verdict Shows (λ e. absurd (true≢false (sym e ∙ unaccepted)))
      (λ _ e. absurd (true≢false (sym e ∙ from-unaccepted s.device time s.registration s.assigned p unaccepted)))
      (λ r _ _. from-shown s.device time s.registration s.assigned p r)

-- fields 3 and 4 alone
alone-records : records (record_bytes 13 heartbeat_alone) ≡ record { kind = 13; value = heartbeat_alone; padded = false } ∷ []
unfolding records records_from record_step record_at of_kind of_value varint_at spelt delimited_at of_length of_stretch stretch fits walk walk_for spelling varint two delimited
alone-records = refl

alone-whole : wholly (record_bytes 13 heartbeat_alone) ≡ true
unfolding wholly records_from record_step record_at of_kind of_value varint_at spelt delimited_at of_length of_stretch stretch fits walk walk_for spelling varint two delimited
alone-whole = refl

alone-read : (read_of heartbeat_alone).reading.readable ≡ true
unfolding behind after utf8_from is_utf8 readable readable_to all_readable field_tells held_tells read_by values_of value_of last_one contents alike numbered held spanned content_at of_tag field_at field_step fields_from varint_at spelt delimited_at of_length of_stretch stretch fits walk walk_for
alone-read = (report-read heartbeat_alone).reading

alone-unpadded : padded_in (record_bytes 13 heartbeat_alone) ≡ false
unfolding padded_in padded_among reading_at read_of padded padded_to any_padded field_tells held_tells contents numbered held spanned content_at of_tag field_at field_step fields_from varint_at spelt delimited_at of_length of_stretch stretch fits walk walk_for
alone-unpadded = rw alone-records

alone-shown : subscription_shown heartbeat_alone ≡ empty_report
unfolding subscription_shown read_by values_of value_of last_one contents alike ids_among write_by written if_any each numbered held spanned content_at of_tag field_at field_step fields_from varint_at spelt delimited_at of_length of_stretch stretch fits walk walk_for spelling varint two delimited
alone-shown = refl

alone-learnt : (d : Device) (r : Registration) (a : Assigned) (time : Point)
    → learnt_from d r a time (record_bytes 13 heartbeat_alone) ≡ with_assigned (nothing_learnt r a) (with_report a heartbeat_alone)
unfolding learnt_from learnt_of noted report_noted
alone-learnt d r a time = rw (alone-whole, alone-records, alone-read)

alone : (s : State) (id : ℕ) (time : Point) → is_awaited s.registration id ≡ true → s.device.signed_responses ≡ false
    → ((acknowledged s id (record_bytes 13 heartbeat_alone) time 0).registration.accepted ≡ true)
    × (report_shown (acknowledged s id (record_bytes 13 heartbeat_alone) time 0).assigned ≡ empty_report)
unfolding acknowledged taken is_takable taken_by accepted_by badly_signed
alone s id time h g =
    rw (alone-unpadded, and-false s.device.refuse_padding, h, alone-learnt s.device s.registration s.assigned time, g) (refl, of-report s.assigned heartbeat_alone alone-read ∙ alone-shown)

-- a heartbeat report is refused by 1, 4 or 9
refused : (a b : Bool) (s : State) (x : Sending) → pick (eqb (pick a 1 (pick b 9 4)) 0) x (unsent (pick a 1 (pick b 9 4)) s) ≡ unsent (pick a 1 (pick b 9 4)) s
refused true b s x = refl
refused false true s x = refl
refused false false s x = refl

pub heartbeat-retired : HeartbeatRetired
unfolding report_of reports own_refusal
heartbeat-retired =
    record {
      checked = checked;
      kept = kept;
      shown = shown;
      alone = alone;
      refused = λ s out store time. refused (ltb out 1280) (acceptable store) s _;
    }
