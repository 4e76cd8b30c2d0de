-- Groups by type: an acknowledgement, and the other calls.
use Rattle.std.specs.Prelude.{None, Option, Some, Result, Ok, Err}
use Prim.Native.Nat.{ℕ}
use mathlib.Core.Path.{◌≡◌, refl, sym, ◌∙◌}
use mathlib.Core.List.{List, [], ◌∷◌}
use mathlib.Core.Bool.{Bool, true, false, not, ◌&&◌, true≢false}
use mathlib.Core.Logic.{◌⊎◌, inl, inr}
use lib.Dec.{eqb, leb}
use lib.ListN.{drop}
use Rattle.ack.specs.Take.{is_awaited, accepted_by, taken, acknowledged}
use Rattle.assign.specs.Assign.{regrouped}
use Rattle.buffer.proofs.Tests.{split, pick-both}
use Rattle.class.specs.Class.{class_of}
use Rattle.class.specs.declared.Class.{Class}
use Rattle.class.specs.declared.Class.TheVariants.{Request, Acknowledgement, Rejected, Ignored}
use Rattle.coap.specs.Frame.{frame_of}
use Rattle.coap.specs.declared.FrameError.{FrameError}
use Rattle.coap.specs.declared.FrameError.TheVariants.{Malformed, Foreign}
use Rattle.coap.specs.declared.Frame.{Frame}
use Rattle.decimal.specs.Ids.{held}
use Rattle.decode.specs.Read.{group_of}
use Rattle.learn.specs.Learn.{learnt_of, learnt_from, padded_in}
use Rattle.note.specs.Note.{nothing_learnt, redirect_noted, session_noted, report_noted, with_regrouped, group_assigned, grouped, with_group, group_noted, validity_noted, signature_noted, noted}
use Rattle.note.specs.declared.Learnt.{Learnt}
use Rattle.outgoing.specs.Sent.{registration_sent, report_sent}
use Rattle.refusal.specs.Refusal.{own_refusal}
use Rattle.registration.specs.Redirect.{restarted, follow, url_in, redirected}
use Rattle.registration.specs.Round.{id_taken, round_taken}
use Rattle.request.specs.Request.{request_of}
use Rattle.request.specs.declared.Asks.{Asks}
use Rattle.request.specs.declared.Asks.TheVariants.{Error, Post as Posting, Index, Record, Records}
use Rattle.schedule.specs.declared.Point.{Point}
use Rattle.state.specs.Groups.{held_pairs}
use Rattle.state.specs.declared.Assigned.{Assigned}
use Rattle.state.specs.declared.Device.{Device}
use Rattle.state.specs.declared.Groups.{Groups}
use Rattle.state.specs.declared.Registration.{Registration}
use Rattle.state.specs.declared.State.{State}
use Rattle.state.specs.declared.Waiting.{Waiting}
use Rattle.step.specs.Step.{World}
use Rattle.tlv.specs.Record.{Tlv, records, readable}
use Rattle.calls.specs.Boot.{boot_of}
use Rattle.calls.specs.Datagram.{Call, Effect, world_in, with_world, post_in, refusal, served_as, served, replied, with_waiting, keeps, requested, classed, received, datagram_of}
use Rattle.calls.specs.Groups.{id_held, id_after, ByType, Nine, GroupsByType}
use Rattle.calls.specs.Made.{Made}
use Rattle.calls.specs.Own.{Sending, with_registration, sending, sending_if, round_of, reports, report_of}
use Rattle.calls.proofs.Late.{requested-by, silently}
use Rattle.calls.proofs.AckSizes.{by-record, by-taken}
use Rattle.calls.proofs.Sizes.{made-sized}
use Rattle.calls.proofs.AckGroups.{from-moves}
use Rattle.calls.proofs.AckNinth.{from-ninth}

-- a redirect accepts nothing
abbrev Unaccepted : Learnt → Type 0
Unaccepted l = l.registration.accepted ≡ false

module _ (d : Device) (time : Point) where
  follow-unaccepted : (r : Registration) (url : Option (List ℕ)) (immediate : Bool) → r.accepted ≡ false → (follow d r url immediate).accepted ≡ false
  unfolding follow restarted
  follow-unaccepted r None immediate h = h
  follow-unaccepted r (Some []) immediate h = h
  follow-unaccepted r (Some (b ∷ bs)) immediate h = refl

  regrouped-unaccepted : (l : Learnt) (groups : Option Groups) → Unaccepted l → Unaccepted (with_regrouped l groups)
  regrouped-unaccepted l None h = h
  regrouped-unaccepted l (Some groups) h = h

  grouped-unaccepted : (l : Learnt) (kind id : Option ℕ) → Unaccepted l → Unaccepted (grouped l kind id)
  unfolding group_assigned
  grouped-unaccepted l None id h = h
  grouped-unaccepted l (Some kind) None h = h
  grouped-unaccepted l (Some kind) (Some id) h =
      pick-both Unaccepted (leb 8 l.group_assigns) _ _ (λ _. h) (λ _. regrouped-unaccepted l (regrouped l.assigned.groups kind id) h)

  noted-unaccepted : (l : Learnt) (k : ℕ) (v : List ℕ) → Unaccepted l → Unaccepted (noted d time l k v)
  unfolding redirect_noted redirected session_noted report_noted group_noted with_group validity_noted signature_noted
  noted-unaccepted l k v h =
      by-record d time l k v Unaccepted (λ _. follow-unaccepted l.registration (url_in v) _ h) (λ _. h) (λ _. h)
      (λ _. grouped-unaccepted l (group_of v).kind (group_of v).id h) (λ _. h) (λ _. h) (λ _ _. h)

  learnt-unaccepted : (l : Learnt) (ts : List Tlv) → Unaccepted l → Unaccepted (learnt_of d time l ts)
  unfolding learnt_of
  learnt-unaccepted l [] h = h
  learnt-unaccepted l (t ∷ ts) h = learnt-unaccepted (noted d time l t.kind t.value) ts (noted-unaccepted l t.kind t.value h)

  pub from-unaccepted : (r : Registration) (a : Assigned) (p : List ℕ) → r.accepted ≡ false → Unaccepted (learnt_from d r a time p)
  unfolding learnt_from
  from-unaccepted r a p h =
      let x = learnt-unaccepted (nothing_learnt r a) (records p) h in
      pick-both Unaccepted (readable p) _ _ (λ _. x) (λ _. x)

-- an acknowledgement
module _ (s : State) (id : ℕ) (p : List ℕ) (time : Point) (verdict : ℕ) where
  abbrev Regroups : State → Type 0
  Regroups x = x.registration.accepted ≡ true → ByType s.assigned.groups x.assigned.groups p

  accepted : Made s → s.registration.accepted ≡ false → Regroups (acknowledged s id p time verdict)
  unfolding accepted_by
  accepted made unaccepted =
      let sized = made-sized s made in
      let moves =
      from-moves s.device time s.registration s.assigned p sized.device
      (λ _. record { registration = sized.registration; assigned = sized.assigned }) in
      by-taken s id p time verdict Regroups (λ e. absurd (true≢false (sym e ∙ unaccepted)))
      (λ _ e. absurd (true≢false (sym e ∙ from-unaccepted s.device time s.registration s.assigned p unaccepted)))
      (λ r n _. let x = moves r n in record { ids = x.ids; count = x.count; places = x.places })

  abbrev Leaves : State → Type 0
  Leaves x = x.registration.accepted ≡ false → x.assigned ≡ s.assigned

  leaves : Leaves (acknowledged s id p time verdict)
  unfolding accepted_by
  leaves = by-taken s id p time verdict Leaves (λ _. refl) (λ _ _. refl) (λ _ _ e. absurd (true≢false e))

  unaccepted : (s.registration.accepted ≡ true) ⊎ ((acknowledged s id p time verdict).registration.accepted ≡ false)
      → (acknowledged s id p time verdict).assigned ≡ s.assigned
  unfolding acknowledged taken is_awaited
  unaccepted (inl e) = split (s.device.refuse_padding && padded_in p) (λ k. rw k) (λ k. rw (k, e))
  unaccepted (inr e) = leaves e

ninth : (s : State) (p : List ℕ) (time : Point) → Made s → (learnt_from s.device s.registration s.assigned time p).readable ≡ true
    → (learnt_from s.device s.registration s.assigned time p).needs_ninth ≡ true
    → Nine (λ type. id_after type (id_held (held_pairs s.assigned.groups) type) (records p))
ninth s p time made =
    let sized = made-sized s made in
    from-ninth s.device time sized.device s.registration s.assigned p
    (λ _. record { registration = sized.registration; assigned = sized.assigned })

-- a part of the state that no record changes, and no answer that is kept, is left by every request
module _ {A : Type 0} (part : State → A) (s : State) (image : List ℕ) (same : (w : World) (x : Waiting) → part (with_waiting (with_world s w) x) ≡ part s)
    (c : Call) where
  served-leaves : (payload ids : List ℕ) (a : Asks) → part (served_as s image c payload ids a).state ≡ part s
  unfolding served_as
  served-leaves payload ids (Error code) = refl
  served-leaves payload ids Posting = same (post_in s image c payload).world s.waiting
  served-leaves payload ids Index = refl
  served-leaves payload ids (Record id) = refl
  served-leaves payload ids Records = refl

  pub requested-leaves : (f : Frame) → part (requested s image c f (request_of c.bytes f)).state ≡ part s
  unfolding replied served keeps
  requested-leaves f =
      let p = drop f.payload c.bytes in
      requested-by (λ (e : Effect). part e.state ≡ part s) s image c f
      (λ _. served-leaves p (held (request_of c.bytes f).ids) (request_of c.bytes f).asks)
      (λ _. silently (λ (e : Effect). part e.state ≡ part s) s image c f refl (λ _. same (post_in s image c p).world s.waiting)
      (λ _. same (post_in s image c p).world _) (same (world_in s image) _) (λ _. same (world_in s image) _) (λ _. same (world_in s image) _))

-- a datagram
module _ (s : State) (image : List ℕ) (c : Call) where
  abbrev Assigns : State → Type 0
  Assigns x =
      (x.assigned ≡ s.assigned)
      ⊎ ((f : Frame) × (frame_of c.bytes ≡ Ok f) × (class_of f.kind f.code ≡ Acknowledgement)
      × (x ≡ acknowledged s f.id (drop f.payload c.bytes) c.time c.verdict))

  classed-assigns : (f : Frame) → frame_of c.bytes ≡ Ok f → (k : Class) → class_of f.kind f.code ≡ k
      → Assigns (classed s image c f k).state
  unfolding classed
  classed-assigns f e Request h = inl (requested-leaves (λ (x : State). x.assigned) s image (λ w x. refl) c f)
  classed-assigns f e Acknowledgement h = inr (f, e, h, refl)
  classed-assigns f e Rejected h = inl refl
  classed-assigns f e Ignored h = inl refl

  received-assigns : (m : Result Frame FrameError) → frame_of c.bytes ≡ m → Assigns (received s image c m).state
  unfolding received
  received-assigns (Ok f) e = classed-assigns f e (class_of f.kind f.code) refl
  received-assigns (Err (Malformed kind id)) e = inl refl
  received-assigns (Err Foreign) e = inl refl

  called : Assigns (datagram_of s image c).state
  unfolding datagram_of
  called =
      pick-both (λ (e : Effect). Assigns e.state) (eqb (refusal s image c) 0) _ _ (λ _. received-assigns (frame_of c.bytes) refl) (λ _. inl refl)

-- and one that registration does not change, by the agent's own datagrams
module _ {A : Type 0} (part : State → A) (s : State) (r : Registration) (same : part (with_registration s r) ≡ part s) (refused : ℕ) where
  abbrev Sends : Sending → Type 0
  Sends x = part x.state ≡ part s

  sending-leaves : (bs : List ℕ) → Sends (sending s r bs)
  unfolding sending
  sending-leaves [] = refl
  sending-leaves (b ∷ bs) = same

  pub own-leaves : (bs : List ℕ) → Sends (sending_if s r refused bs)
  own-leaves bs = pick-both Sends (eqb refused 0) _ _ (λ _. sending-leaves bs) (λ _. refl)

pub groups-by-type : GroupsByType
unfolding round_of report_of boot_of
groups-by-type =
    record {
      accepted = accepted;
      ninth = ninth;
      unaccepted = unaccepted;
      called = called;
      rounded =
          λ s out store time.
          own-leaves (λ (x : State). x.assigned) s (round_taken s.device s.registration) refl (own_refusal out store (not s.registration.accepted) 8) (registration_sent s store time);
      reported =
          λ s out store time which. own-leaves (λ (x : State). x.assigned) s (id_taken s.registration) refl (own_refusal out store (reports s which) 9) (report_sent s store time);
      booted = λ s. refl;
    }
