-- An acknowledgement that is taken keeps the sizes; redirects, which posts bring too.
use Rattle.state.specs.declared.Groups.{Groups}
use Rattle.std.specs.Prelude.{None, Option, Some}
use Prim.Native.Nat.{ℕ, ◌≤◌}
use mathlib.Core.Path.{◌≡◌}
use mathlib.Core.List.{List, [], ◌∷◌}
use mathlib.Core.Bool.{Bool, true, false, not, ◌&&◌}
use mathlib.Core.Logic.{inr}
use native.Mathlib.Omega.{arith}
use borrow.Author.Tests.{not-true, leb-false, eqb-true}
use lib.Dec.{eqb, leb}
use Rattle.assign.specs.Assign.{in_session, with_session, with_report, place_of, regrouped}
use Rattle.note.specs.Note.{nothing_learnt, marked, redirect_noted, session_noted, report_noted, with_regrouped, group_assigned, grouped, with_group, group_noted, validity_noted, signature_noted, noted}
use Rattle.learn.specs.Learn.{learnt_of, learnt_from, padded_in}
use Rattle.ack.specs.Take.{is_awaited, is_takable, accepted_by, taken_by, taken, acknowledged}
use Rattle.note.specs.declared.Learnt.{Learnt}
use Rattle.buffer.proofs.Tests.{pick-both, both}
use Rattle.csmp.specs.Values.{at_most}
use Rattle.csmp.specs.Tables.{redirect, session}
use Rattle.tables.specs.Table.{readable as fits}
use Rattle.decode.specs.Read.{redirect_of, session_of, group_of, validity_of, signature_of}
use Rattle.decode_report.specs.Report.{with_id, with_entry, with_entries, report_of}
use Rattle.decimal.specs.Decimal.{id_of}
use Rattle.decimal.specs.Ids.{no_ids, pushed as listed}
use Rattle.decimal.specs.declared.Ids.{Ids}
use Rattle.post.specs.Judge.{badly_signed}
use Rattle.protobuf.specs.Each.{IfAny}
use Rattle.protobuf.specs.Given.{bytes_given}
use Rattle.registration.specs.Redirect.{restarted, is_set, follow, url_in, redirected}
use Rattle.schedule.specs.declared.Point.{Point}
use Rattle.state.specs.declared.Assigned.{Assigned}
use Rattle.state.specs.declared.Device.{Device}
use Rattle.state.specs.declared.Registration.{Registration}
use Rattle.state.specs.declared.State.{State}
use Rattle.tlv.specs.Record.{Tlv, records, readable}
use Rattle.calls.proofs.Pairs.{with-pairs, with-few, with-differ}
use Rattle.calls.proofs.TextLaws.{ShortText, text-held, short-text, url-text, session-text, report-small}
use Rattle.calls.specs.Made.{DeviceSized, AssignedSized, RegistrationSized, Sized}

-- record 6: a URL over its size, or one that is no text, makes it unreadable
module _ (d : Device) (r : Registration) (k : DeviceSized d) (s : RegistrationSized d r) where
  follow-sized : (url : Option (List ℕ)) (immediate : Bool) → IfAny (ShortText 128) url
      → RegistrationSized d (follow d r url immediate)
  unfolding follow restarted
  follow-sized None immediate h = s
  follow-sized (Some []) immediate h = s
  follow-sized (Some (b ∷ bs)) immediate h =
      let t = text-held 128 (b ∷ bs) h in
      record { url = (omega arith, t.0); text = inr t.1; interval = (omega arith, k.low.1) }

  pub redirect-sized : (v : List ℕ) → (redirect_of v).reading.readable ≡ true → RegistrationSized d (redirected d r v)
  unfolding redirected url_in redirect_of
  redirect-sized v h =
      let t = both (fits redirect v) (at_most 128 (redirect_of v).url) h in
      follow-sized (bytes_given v (redirect_of v).url) (is_set (redirect_of v).immediate)
      (short-text 128 v (redirect_of v).url t.1 (url-text v h))

-- record 7, likewise
in-session-sized : (a : Assigned) → AssignedSized a → (id : Option (List ℕ)) → IfAny (ShortText 64) id → AssignedSized (in_session a id)
in-session-sized a s None h = s
in-session-sized a s (Some id) h =
    let t = text-held 64 id h in
    record { list = s.list; groups = s.groups; types = s.types; session = t.0; text = t.1; ids = s.ids; each = s.each }

session-sized : (a : Assigned) → AssignedSized a → (v : List ℕ) → (session_of v).reading.readable ≡ true → AssignedSized (with_session a v)
unfolding with_session session_of
session-sized a s v h =
    let t = both (fits session v) (at_most 64 (session_of v).id) h in
    in-session-sized a s (bytes_given v (session_of v).id) (short-text 64 v (session_of v).id t.1 (session-text v h))

-- record 13: a list takes 32 ids and no more
abbrev Few : Ids → Type 0
Few ids = ids.count ≤ 32

few-pushed : (ids : Ids) (x : ℕ) → Few ids → Few (listed ids x)
unfolding listed
few-pushed ids x h =
    pick-both Few (leb 32 ids.count) _ _ (λ e. h)
    (λ e. let l = leb-false 32 ids.count e in omega arith)

few-id : (ids : Ids) (i : Option ℕ) → Few ids → Few (with_id ids i)
unfolding with_id
few-id ids (Some x) h = few-pushed ids x h
few-id ids None h = h

few-entries : (ids : Ids) (texts : List (List ℕ)) → Few ids → Few (with_entries ids texts)
unfolding with_entries with_entry
few-entries ids [] h = h
few-entries ids (t ∷ ts) h = few-entries (with_entry ids t) ts (few-id ids (id_of t) h)

few-read : (v : List ℕ) → Few (report_of v).ids
unfolding report_of
few-read v = few-entries no_ids _ (omega arith)

report-sized : (a : Assigned) → AssignedSized a → (v : List ℕ) → (report_of v).reading.readable ≡ true → AssignedSized (with_report a v)
unfolding with_report
report-sized a s v h =
    record {
      list = s.list;
      groups = s.groups;
      types = s.types;
      session = s.session;
      text = s.text;
      ids = few-read v;
      each = report-small v h;
    }

-- a record of one type is of no other
pub unlike : (k n m : ℕ) → eqb k n ≡ true → eqb n m ≡ false → eqb k m ≡ false
unlike k n m e h = rw (eqb-true k n e) h

-- what holds after each record that is read, and without one, holds after any
pub by-record : (d : Device) (time : Point) (l : Learnt) (n : ℕ) (v : List ℕ) (P : Learnt → Type 0)
    → (eqb n 6 ≡ true → P (redirect_noted d l v)) → (eqb n 7 ≡ true → P (session_noted l v)) → (eqb n 13 ≡ true → P (report_noted l v))
    → (eqb n 55 ≡ true → P (group_noted l v)) → (eqb n 76 ≡ true → P (validity_noted l v time)) → (eqb n 77 ≡ true → P (signature_noted l v))
    → (eqb n 13 ≡ false → eqb n 55 ≡ false → P l) → P (noted d time l n v)
unfolding noted
by-record d time l n v P redirect session report group validity signature other =
    pick-both P (eqb n 6) _ _ redirect
    (λ _. pick-both P (eqb n 7) _ _ session
    (λ _. pick-both P (eqb n 13) _ _ report
    (λ e. pick-both P (eqb n 55) _ _ group
    (λ f. pick-both P (eqb n 76) _ _ validity
    (λ _. pick-both P (eqb n 77) _ _ signature (λ _. other e f))))))

-- what an acknowledgement says is sized as long as it can be read
pub record LearntSized (d : Device) (l : Learnt) : Type 0 where
  pub registration : RegistrationSized d l.registration
  pub assigned : AssignedSized l.assigned

abbrev pub Learns : Device → Learnt → Type 0
Learns d l = l.readable ≡ true → LearntSized d l

module _ (d : Device) (k : DeviceSized d) where
  marked-sized : (l : Learnt) (b : Bool) → Learns d l → Learns d (marked l b)
  marked-sized l b h e =
      let s = h (both l.readable b e).0 in
      record { registration = s.registration; assigned = s.assigned }

  redirect-noted : (l : Learnt) (v : List ℕ) → Learns d l → Learns d (redirect_noted d l v)
  unfolding redirect_noted
  redirect-noted l v h e =
      let t = both l.readable (redirect_of v).reading.readable e in
      let s = h t.0 in
      record { registration = redirect-sized d l.registration k s.registration v t.1; assigned = s.assigned }

  session-noted : (l : Learnt) (v : List ℕ) → Learns d l → Learns d (session_noted l v)
  unfolding session_noted
  session-noted l v h e =
      let t = both l.readable (session_of v).reading.readable e in
      let s = h t.0 in
      record { registration = s.registration; assigned = session-sized l.assigned s.assigned v t.1 }

  report-noted : (l : Learnt) (v : List ℕ) → Learns d l → Learns d (report_noted l v)
  unfolding report_noted
  report-noted l v h e =
      let t = both l.readable (report_of v).reading.readable e in
      let s = h t.0 in
      record { registration = s.registration; assigned = report-sized l.assigned s.assigned v t.1 }

  -- record 55: 8 groups and no more, each of its own type
  assigned-sized : (l : Learnt) (kind id : ℕ) → Learns d l → Learns d (group_assigned l kind id)
  unfolding group_assigned regrouped
  assigned-sized l kind id h =
      pick-both (Learns d) (leb 8 l.group_assigns) _ _ (λ _. marked-sized l false h)
      (λ _. pick-both (λ (r : Option Groups). Learns d (with_regrouped l r)) (leb 8 (place_of l.assigned.groups kind)) _ _
      (λ _ e. let s = h e in record { registration = s.registration; assigned = s.assigned })
      (λ f e. let s = h e in
      let a = s.assigned in
      let g = l.assigned.groups in
      record {
        registration = s.registration;
        assigned =
            record {
              list = with-pairs g kind id a.list a.groups f;
              groups = with-few g kind id a.list a.groups f;
              types = with-differ g kind id a.list a.groups f a.types;
              session = a.session;
              text = a.text;
              ids = a.ids;
              each = a.each;
            };
      }))

  grouped-sized : (l : Learnt) (kind id : Option ℕ) → Learns d l → Learns d (grouped l kind id)
  grouped-sized l None id h = h
  grouped-sized l (Some kind) None h = h
  grouped-sized l (Some kind) (Some id) h = assigned-sized l kind id h

  group-noted : (l : Learnt) (v : List ℕ) → Learns d l → Learns d (group_noted l v)
  unfolding group_noted with_group
  group-noted l v h =
      marked-sized (with_group l (group_of v)) (group_of v).reading.readable (grouped-sized l (group_of v).kind (group_of v).id h)

  validity-noted : (l : Learnt) (v : List ℕ) (time : Point) → Learns d l → Learns d (validity_noted l v time)
  unfolding validity_noted
  validity-noted l v time h e =
      let s = h (both l.readable (validity_of v).reading.readable e).0 in
      record { registration = s.registration; assigned = s.assigned }

  signature-noted : (l : Learnt) (v : List ℕ) → Learns d l → Learns d (signature_noted l v)
  unfolding signature_noted
  signature-noted l v h e =
      let s = h (both l.readable (signature_of v).readable e).0 in
      record { registration = s.registration; assigned = s.assigned }

  pub noted-sized : (time : Point) (l : Learnt) (n : ℕ) (v : List ℕ) → Learns d l → Learns d (noted d time l n v)
  noted-sized time l n v h =
      by-record d time l n v (Learns d) (λ _. redirect-noted l v h) (λ _. session-noted l v h) (λ _. report-noted l v h) (λ _. group-noted l v h)
      (λ _. validity-noted l v time h) (λ _. signature-noted l v h) (λ _ _. h)

  learnt-sized : (time : Point) (l : Learnt) (ts : List Tlv) → Learns d l → Learns d (learnt_of d time l ts)
  unfolding learnt_of
  learnt-sized time l [] h = h
  learnt-sized time l (t ∷ ts) h = learnt-sized time (noted d time l t.kind t.value) ts (noted-sized time l t.kind t.value h)

  from-sized : (r : Registration) (a : Assigned) (time : Point) (p : List ℕ) → RegistrationSized d r → AssignedSized a → Learns d (learnt_from d r a time p)
  unfolding learnt_from
  from-sized r a time p x y =
      let h = learnt-sized time (nothing_learnt r a) (records p) (λ _. record { registration = x; assigned = y }) in
      pick-both (Learns d) (readable p) _ _ (λ _. h) (λ _. marked-sized (learnt_of d time (nothing_learnt r a) (records p)) false h)

-- an acknowledgement that is taken was read, and without a redirect to do there is room for its groups
module _ (l : Learnt) (verdict : ℕ) (required : Bool) (h : is_takable l verdict required ≡ true) where
  takable-readable : l.readable ≡ true
  unfolding is_takable
  takable-readable = (both l.readable _ h).0

  takable-placed : l.redirected ≡ false → l.needs_ninth ≡ false
  unfolding is_takable
  takable-placed e =
      let p = (both (not l.expired) _ (both (not (badly_signed l.signed verdict required)) _ (both l.readable _ h).1).1).1 in
      not-true l.needs_ninth (rw e at p)

-- what holds of the state as it was, of one that a redirect left and of one that an acceptance left, holds behind any acknowledgement
module _ (s : State) (id : ℕ) (p : List ℕ) (time : Point) (verdict : ℕ) where
  abbrev pub learnt_by : Learnt
  learnt_by = learnt_from s.device s.registration s.assigned time p

  pub by-taken : (P : State → Type 0) → P s
      → (learnt_by.readable ≡ true → P (record { device = s.device; images = s.images; assigned = s.assigned; registration = learnt_by.registration; waiting = s.waiting }))
      → (learnt_by.readable ≡ true → learnt_by.needs_ninth ≡ false → P (accepted_by s learnt_by))
      → P (acknowledged s id p time verdict)
  unfolding acknowledged taken taken_by
  by-taken P same redirect accept =
      let required = s.device.signed_responses in
      pick-both P (s.device.refuse_padding && padded_in p) _ _ (λ _. same)
      (λ _. pick-both P (is_awaited s.registration id) _ _
      (λ _. pick-both P (is_takable learnt_by verdict required) _ _
      (λ t. let r = takable-readable learnt_by verdict required t in
      pick-both P learnt_by.redirected _ _ (λ _. redirect r) (λ n. accept r (takable-placed learnt_by verdict required t n)))
      (λ _. same)) (λ _. same))

pub acknowledged-sized : (s : State) (sized : Sized s) (id : ℕ) (p : List ℕ) (time : Point) (verdict : ℕ) → Sized (acknowledged s id p time verdict)
unfolding accepted_by
acknowledged-sized s sized id p time verdict =
    let h = from-sized s.device sized.device s.registration s.assigned time p sized.registration sized.assigned in
    by-taken s id p time verdict Sized sized
    (λ r. record { device = sized.device; images = sized.images; assigned = sized.assigned; registration = (h r).registration; waiting = sized.waiting })
    (λ r _. record {
      device = sized.device;
      images = sized.images;
      assigned = (h r).assigned;
      registration = record { url = sized.registration.url; text = sized.registration.text; interval = sized.registration.interval };
      waiting = sized.waiting;
    })
