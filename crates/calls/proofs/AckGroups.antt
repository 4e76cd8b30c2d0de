-- What an acknowledgement's records, one by one, do to the groups held.
use Rattle.state.specs.declared.Groups.{Groups}
use Rattle.std.specs.Prelude.{None, Option, Some}
use Prim.Native.Nat.{ℕ, ◌≤◌, ◌<◌}
use mathlib.Core.Path.{◌≡◌, refl, sym, ap, ◌∙◌}
use mathlib.Core.List.{List, [], ◌∷◌}
use mathlib.Core.Bool.{Bool, true, false, true≢false}
use native.Mathlib.Omega.{arith}
use lib.Dec.{eqb, leb}
use Rattle.assign.specs.Assign.{in_session, with_session, with_report, place_of, regrouped}
use Rattle.buffer.specs.Pick.{pick}
use Rattle.buffer.proofs.Tests.{pick-both, both}
use Rattle.decode.specs.Read.{session_of, group_of}
use Rattle.learn.specs.Learn.{learnt_of, learnt_from}
use Rattle.note.specs.Note.{nothing_learnt, marked, redirect_noted, session_noted, report_noted, with_regrouped, group_assigned, grouped, with_group, group_noted, validity_noted, signature_noted, noted}
use Rattle.note.specs.declared.Learnt.{Learnt}
use Rattle.protobuf.specs.Given.{bytes_given}
use Rattle.schedule.specs.declared.Point.{Point}
use Rattle.state.specs.Groups.{held_pairs, type_at}
use Rattle.state.specs.declared.Assigned.{Assigned}
use Rattle.state.specs.declared.Device.{Device}
use Rattle.state.specs.declared.Registration.{Registration}
use Rattle.tlv.specs.Record.{Tlv, records, readable}
use Rattle.calls.specs.Groups.{id_held, id_assigned, id_after}
use Rattle.calls.specs.Made.{DeviceSized}
use Rattle.calls.proofs.AckSizes.{unlike, by-record, Learns, noted-sized}
use Rattle.calls.proofs.Pairs.{with-grows, with-places, with-id}

-- what a part of an acknowledgement does to the groups, where it can still be accepted after it
pub record Moved (f : ℕ → Option ℕ → Option ℕ) (l m : Learnt) : Type 0 where
  pub readable : l.readable ≡ true
  pub room : l.needs_ninth ≡ false
  pub ids : (type : ℕ) → id_held (held_pairs m.assigned.groups) type ≡ f type (id_held (held_pairs l.assigned.groups) type)
  pub count : l.assigned.groups.count ≤ m.assigned.groups.count
  pub places : (i : ℕ) → i < l.assigned.groups.count → type_at m.assigned.groups i ≡ type_at l.assigned.groups i

abbrev pub Moves : (ℕ → Option ℕ → Option ℕ) → Learnt → Learnt → Type 0
Moves f l m = m.readable ≡ true → m.needs_ninth ≡ false → Moved f l m

-- a record of another kind leaves them
abbrev pub still : ℕ → Option ℕ → Option ℕ
still type was = was

module _ (l : Learnt) where
  unmoved : (m : Learnt) → (m.readable ≡ true → l.readable ≡ true) → m.needs_ninth ≡ l.needs_ninth → m.assigned.groups ≡ l.assigned.groups → Moves still l m
  unmoved m f g h r e =
      record {
        readable = f r;
        room = sym g ∙ e;
        ids = λ type. rw h;
        count = rw h (omega arith);
        places = λ i _. rw h;
      }

  marked-moves : (f : ℕ → Option ℕ → Option ℕ) (m : Learnt) (b : Bool) → Moves f l m → Moves f l (marked m b)
  marked-moves f m b h r e =
      let x = h (both m.readable b r).0 e in
      record { readable = x.readable; room = x.room; ids = x.ids; count = x.count; places = x.places }

in-session-groups : (a : Assigned) (id : Option (List ℕ)) → (in_session a id).groups ≡ a.groups
in-session-groups a None = refl
in-session-groups a (Some id) = refl

module _ (d : Device) (l : Learnt) (v : List ℕ) where
  redirect-moves : Moves still l (redirect_noted d l v)
  unfolding redirect_noted
  redirect-moves = unmoved l (redirect_noted d l v) (λ r. (both l.readable _ r).0) refl refl

  session-moves : Moves still l (session_noted l v)
  unfolding session_noted with_session
  session-moves = unmoved l (session_noted l v) (λ r. (both l.readable _ r).0) refl (in-session-groups l.assigned (bytes_given v (session_of v).id))

  report-moves : Moves still l (report_noted l v)
  unfolding report_noted with_report
  report-moves = unmoved l (report_noted l v) (λ r. (both l.readable _ r).0) refl refl

  validity-moves : (time : Point) → Moves still l (validity_noted l v time)
  unfolding validity_noted
  validity-moves time = unmoved l (validity_noted l v time) (λ r. (both l.readable _ r).0) refl refl

  signature-moves : Moves still l (signature_noted l v)
  unfolding signature_noted
  signature-moves = unmoved l (signature_noted l v) (λ r. (both l.readable _ r).0) refl refl

-- record 55
abbrev pub assigns : ℕ → ℕ → ℕ → Option ℕ → Option ℕ
assigns kind id type was = pick (eqb kind type) (Some id) was

module _ (d : Device) (l : Learnt) (h : Learns d l) where
  assigned-moves : (kind id : ℕ) → Moves (assigns kind id) l (group_assigned l kind id)
  unfolding group_assigned regrouped
  assigned-moves kind id =
      pick-both (Moves (assigns kind id) l) (leb 8 l.group_assigns) _ _
      (λ _ r. absurd (true≢false (sym (both l.readable false r).1)))
      (λ _. pick-both (λ (x : Option Groups). Moves (assigns kind id) l (with_regrouped l x)) (leb 8 (place_of l.assigned.groups kind)) _ _
      (λ _ _ e. absurd (true≢false e))
      (λ f r e. let a = (h r).assigned in
      let g = l.assigned.groups in
      record {
        readable = r;
        room = e;
        ids = with-id g kind id a.list a.groups f;
        count = with-grows g kind id a.list a.groups f;
        places = with-places g kind id a.list a.groups f;
      }))

  grouped-moves : (kind id : Option ℕ) → Moves (λ type was. id_assigned type was kind id) l (grouped l kind id)
  grouped-moves None id = unmoved l l (λ r. r) refl refl
  grouped-moves (Some kind) None = unmoved l l (λ r. r) refl refl
  grouped-moves (Some kind) (Some id) = assigned-moves kind id

  group-moves : (v : List ℕ) → Moves (λ type was. id_assigned type was (group_of v).kind (group_of v).id) l (group_noted l v)
  unfolding group_noted with_group
  group-moves v = marked-moves l _ (with_group l (group_of v)) (group_of v).reading.readable (grouped-moves (group_of v).kind (group_of v).id)

-- one record, by its type
abbrev pub id_noted : ℕ → List ℕ → ℕ → Option ℕ → Option ℕ
id_noted k v type was = pick (eqb k 55) (id_assigned type was (group_of v).kind (group_of v).id) was

moves-as : (l m : Learnt) (f g : ℕ → Option ℕ → Option ℕ) → ((type : ℕ) (was : Option ℕ) → f type was ≡ g type was) → Moves f l m → Moves g l m
moves-as l m f g e h r n =
    let x = h r n in
    record { readable = x.readable; room = x.room; ids = λ type. x.ids type ∙ e type _; count = x.count; places = x.places }

moves-55 : (l m : Learnt) (k : ℕ) (v : List ℕ) → eqb k 55 ≡ true
    → Moves (λ type was. id_assigned type was (group_of v).kind (group_of v).id) l m → Moves (id_noted k v) l m
moves-55 l m k v t = moves-as l m _ (id_noted k v) (λ type was. rw t)

moves-other : (l m : Learnt) (k : ℕ) (v : List ℕ) → eqb k 55 ≡ false → Moves still l m → Moves (id_noted k v) l m
moves-other l m k v t = moves-as l m still (id_noted k v) (λ type was. rw t)

module _ (d : Device) (time : Point) where
  pub noted-moves : (l : Learnt) (k : ℕ) (v : List ℕ) → Learns d l → Moves (id_noted k v) l (noted d time l k v)
  noted-moves l k v h =
      by-record d time l k v (Moves (id_noted k v) l)
      (λ e. moves-other l _ k v (unlike k 6 55 e refl) (redirect-moves d l v))
      (λ e. moves-other l _ k v (unlike k 7 55 e refl) (session-moves d l v))
      (λ e. moves-other l _ k v (unlike k 13 55 e refl) (report-moves d l v))
      (λ e. moves-55 l _ k v e (group-moves d l h v))
      (λ e. moves-other l _ k v (unlike k 76 55 e refl) (validity-moves d l v time))
      (λ e. moves-other l _ k v (unlike k 77 55 e refl) (signature-moves d l v))
      (λ _ e. moves-other l l k v e (unmoved l l (λ r. r) refl refl))

  learnt-moves : (l : Learnt) (ts : List Tlv) → DeviceSized d → Learns d l → Moves (λ type was. id_after type was ts) l (learnt_of d time l ts)
  unfolding learnt_of id_after
  learnt-moves l [] k h = unmoved l l (λ r. r) refl refl
  learnt-moves l (t ∷ ts) k h = λ r e.
      let n = noted d time l t.kind t.value in
      let y = learnt-moves n ts k (noted-sized d k time l t.kind t.value h) r e in
      let x = noted-moves l t.kind t.value h y.readable y.room in
      let c = x.count in
      let f = y.count in
      record {
        readable = x.readable;
        room = x.room;
        ids = λ type. y.ids type ∙ ap (λ (w : Option ℕ). id_after type w ts) (x.ids type);
        count = omega arith;
        places = λ i q. y.places i (omega arith) ∙ x.places i q;
      }

  pub from-moves : (r : Registration) (a : Assigned) (p : List ℕ) → DeviceSized d → Learns d (nothing_learnt r a)
      → Moves (λ type was. id_after type was (records p)) (nothing_learnt r a) (learnt_from d r a time p)
  unfolding learnt_from
  from-moves r a p k h =
      let x = learnt-moves (nothing_learnt r a) (records p) k h in
      pick-both (Moves (λ type was. id_after type was (records p)) (nothing_learnt r a)) (readable p) _ _ (λ _. x)
      (λ _. marked-moves (nothing_learnt r a) _ (learnt_of d time (nothing_learnt r a) (records p)) false x)
