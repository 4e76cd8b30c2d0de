-- An acknowledgement that would need a ninth group: nine types would have an id.
use Rattle.std.specs.Prelude.{None, Option, Some}
use Prim.Native.Nat.{ℕ, zero, suc, ◌≤◌, ◌<◌}
use mathlib.Core.Path.{◌≡◌, refl, sym, ap, subst, ◌∙◌}
use mathlib.Core.List.{List, [], ◌∷◌}
use mathlib.Core.Bool.{Bool, true, false, true≢false}
use native.Mathlib.Omega.{arith}
use borrow.Author.Tests.{eq-eqb}
use lib.Dec.{eqb, leb}
use lib.ListN.{length, get_or, length-take}
use lib.Seq.{get_or-take}
use Rattle.buffer.specs.Pick.{pick}
use Rattle.assign.specs.Assign.{place_of, regrouped}
use Rattle.buffer.proofs.Tests.{split, pick-both, both}
use Rattle.decode.specs.Read.{group_of}
use Rattle.learn.specs.Learn.{learnt_of, learnt_from}
use Rattle.note.specs.Note.{nothing_learnt, redirect_noted, session_noted, report_noted, with_regrouped, group_assigned, grouped, with_group, group_noted, validity_noted, signature_noted, noted}
use Rattle.note.specs.declared.Learnt.{Learnt}
use Rattle.schedule.specs.declared.Point.{Point}
use Rattle.state.specs.Groups.{no_pair, held_pairs, type_at}
use Rattle.state.specs.declared.Assigned.{Assigned}
use Rattle.state.specs.declared.Device.{Device}
use Rattle.state.specs.declared.Groups.{Groups}
use Rattle.state.specs.declared.Pair.{Pair}
use Rattle.state.specs.declared.Registration.{Registration}
use Rattle.tlv.specs.Record.{Tlv, records, readable}
use Rattle.calls.specs.Groups.{id_held, id_assigned, id_after, Nine}
use Rattle.calls.specs.Made.{DeviceSized}
use Rattle.calls.proofs.AckSizes.{by-record, Learns, noted-sized}
use Rattle.calls.proofs.Pairs.{nine}
use Rattle.calls.proofs.AckGroups.{still, assigns, id_noted, noted-moves}

-- once given, an id stays given
abbrev There : Option ℕ → Type 0
There n = n ≡ None → ⊥

abbrev is_there : Option ℕ → Bool
is_there (Some id) = true
is_there None = false

given-there : (id : ℕ) → There (Some id)
given-there id e = true≢false (ap is_there e)

assigned-there : (type : ℕ) (was kind id : Option ℕ) → There was → There (id_assigned type was kind id)
assigned-there type was None id h = h
assigned-there type was (Some kind) None h = h
assigned-there type was (Some kind) (Some id) h = pick-both There (eqb kind type) _ _ (λ _. given-there id) (λ _. h)

after-there : (type : ℕ) (was : Option ℕ) (ts : List Tlv) → There was → There (id_after type was ts)
unfolding id_after
after-there type was [] h = h
after-there type was (t ∷ ts) h =
    after-there type (pick (eqb t.kind 55) (id_assigned type was (group_of t.value).kind (group_of t.value).id) was) ts (pick-both There (eqb t.kind 55) _ _ (λ _. assigned-there type was (group_of t.value).kind (group_of t.value).id h) (λ _. h))

-- a type that is held has an id
held-there : (ps : List Pair) (i : ℕ) → i < length ps → There (id_held ps (get_or ps i no_pair).kind)
unfolding id_held
held-there [] i h = absurd (omega arith)
held-there (p ∷ ps) zero h = rw (eq-eqb p.kind p.kind refl) (given-there p.id)
held-there (p ∷ ps) (suc i) h =
    pick-both There (eqb p.kind (get_or ps i no_pair).kind) _ _ (λ _. given-there p.id) (λ _. held-there ps i (omega arith))

type-there : (g : Groups) (i : ℕ) → length g.list ≡ 8 → g.count ≤ 8 → i < g.count → There (id_held (held_pairs g) (type_at g i))
type-there g i list few h =
    subst (λ (p : Pair). There (id_held (held_pairs g) p.kind)) (get_or-take g.count g.list i no_pair h)
    (held-there (held_pairs g) i (omega (arith, length-take g.count g.list)))

-- a part that can be read after more of it could be read before
module _ (l : Learnt) where
  regrouped-readable : (groups : Option Groups) → (with_regrouped l groups).readable ≡ true → l.readable ≡ true
  regrouped-readable None r = r
  regrouped-readable (Some groups) r = r

  grouped-readable : (kind id : Option ℕ) → (grouped l kind id).readable ≡ true → l.readable ≡ true
  unfolding group_assigned
  grouped-readable None id = λ r. r
  grouped-readable (Some kind) None = λ r. r
  grouped-readable (Some kind) (Some id) =
      pick-both (λ (m : Learnt). m.readable ≡ true → l.readable ≡ true) (leb 8 l.group_assigns) _ _ (λ _ r. (both l.readable false r).0)
      (λ _. regrouped-readable (regrouped l.assigned.groups kind id))

  noted-readable : (d : Device) (time : Point) (k : ℕ) (v : List ℕ) → (noted d time l k v).readable ≡ true → l.readable ≡ true
  unfolding redirect_noted session_noted report_noted group_noted with_group validity_noted signature_noted
  noted-readable d time k v =
      by-record d time l k v (λ (m : Learnt). m.readable ≡ true → l.readable ≡ true)
      (λ _ r. (both l.readable _ r).0) (λ _ r. (both l.readable _ r).0) (λ _ r. (both l.readable _ r).0)
      (λ _ r. grouped-readable (group_of v).kind (group_of v).id (both (with_group l (group_of v)).readable _ r).0)
      (λ _ r. (both l.readable _ r).0) (λ _ r. (both l.readable _ r).0) (λ _ _ r. r)

pub learnt-readable : (d : Device) (time : Point) (l : Learnt) (ts : List Tlv) → (learnt_of d time l ts).readable ≡ true → l.readable ≡ true
unfolding learnt_of
learnt-readable d time l [] r = r
learnt-readable d time l (t ∷ ts) r =
    noted-readable l d time t.kind t.value (learnt-readable d time (noted d time l t.kind t.value) ts r)

-- a ninth group
nine-as : (f g : ℕ → Option ℕ) → ((type : ℕ) → f type ≡ g type) → Nine f → Nine g
nine-as f g e x = record { type = x.type; differ = x.differ; held = λ i h q. x.held i h (e (x.type i) ∙ q) }

module _ (d : Device) (l : Learnt) (h : Learns d l) (fits : l.needs_ninth ≡ false) (ts : List Tlv) where
  abbrev Ninth : (ℕ → Option ℕ → Option ℕ) → Learnt → Type 0
  Ninth f m =
      m.readable ≡ true → m.needs_ninth ≡ true → Nine (λ type. id_after type (f type (id_held (held_pairs l.assigned.groups) type)) ts)

  no-ninth : (f : ℕ → Option ℕ → Option ℕ) → Ninth f l
  no-ninth f r e = absurd (true≢false (sym e ∙ fits))

  assigned-ninth : (kind id : ℕ) → Ninth (assigns kind id) (group_assigned l kind id)
  unfolding group_assigned regrouped
  assigned-ninth kind id =
      pick-both (Ninth (assigns kind id)) (leb 8 l.group_assigns) _ _
      (λ _ r. absurd (true≢false (sym (both l.readable false r).1)))
      (λ _. pick-both (λ (x : Option Groups). Ninth (assigns kind id) (with_regrouped l x)) (leb 8 (place_of l.assigned.groups kind)) _ _
      (λ f r _. let a = (h r).assigned in
      let g = l.assigned.groups in
      nine g kind a.list a.groups f _ a.types
      (λ i q. after-there (type_at g i) _ ts
      (pick-both There (eqb kind (type_at g i)) _ _ (λ _. given-there id) (λ _. type-there g i a.list a.groups q)))
      (after-there kind _ ts (rw (eq-eqb kind kind refl) (given-there id))))
      (λ _ _ e. absurd (true≢false (sym e ∙ fits))))

  grouped-ninth : (kind id : Option ℕ) → Ninth (λ type was. id_assigned type was kind id) (grouped l kind id)
  grouped-ninth None id = no-ninth still
  grouped-ninth (Some kind) None = no-ninth still
  grouped-ninth (Some kind) (Some id) = assigned-ninth kind id

  noted-ninth : (time : Point) (k : ℕ) (v : List ℕ) → Ninth (id_noted k v) (noted d time l k v)
  unfolding redirect_noted session_noted report_noted group_noted with_group validity_noted signature_noted
  noted-ninth time k v =
      by-record d time l k v (Ninth (id_noted k v)) (λ _ _ e. absurd (true≢false (sym e ∙ fits))) (λ _ _ e. absurd (true≢false (sym e ∙ fits)))
      (λ _ _ e. absurd (true≢false (sym e ∙ fits)))
      (λ t r e. nine-as _ _ (λ type. rw t)
      (grouped-ninth (group_of v).kind (group_of v).id (both (with_group l (group_of v)).readable _ r).0 e))
      (λ _ _ e. absurd (true≢false (sym e ∙ fits))) (λ _ _ e. absurd (true≢false (sym e ∙ fits))) (λ _ _. no-ninth (id_noted k v))

module _ (d : Device) (time : Point) (k : DeviceSized d) where
  learnt-ninth : (l : Learnt) (ts : List Tlv) → Learns d l → l.needs_ninth ≡ false → (learnt_of d time l ts).readable ≡ true
      → (learnt_of d time l ts).needs_ninth ≡ true → Nine (λ type. id_after type (id_held (held_pairs l.assigned.groups) type) ts)
  unfolding learnt_of id_after
  learnt-ninth l [] h fits r e = absurd (true≢false (sym e ∙ fits))
  learnt-ninth l (t ∷ ts) h fits r e =
      let m = noted d time l t.kind t.value in
      let x = learnt-readable d time m ts r in
      split m.needs_ninth (noted-ninth d l h fits ts time t.kind t.value x)
      (λ q. let y = noted-moves d time l t.kind t.value h x q in
      nine-as _ _ (λ type. ap (λ (w : Option ℕ). id_after type w ts) (y.ids type))
      (learnt-ninth m ts (noted-sized d k time l t.kind t.value h) q r e))

  pub from-ninth : (r : Registration) (a : Assigned) (p : List ℕ) → Learns d (nothing_learnt r a) → (learnt_from d r a time p).readable ≡ true
      → (learnt_from d r a time p).needs_ninth ≡ true → Nine (λ type. id_after type (id_held (held_pairs a.groups) type) (records p))
  unfolding learnt_from
  from-ninth r a p h =
      let m = learnt_of d time (nothing_learnt r a) (records p) in
      pick-both (λ (m : Learnt). m.readable ≡ true → m.needs_ninth ≡ true → Nine (λ type. id_after type (id_held (held_pairs a.groups) type) (records p)))
      (readable p) _ _ (λ _. learnt-ninth (nothing_learnt r a) (records p) h refl)
      (λ _ e. absurd (true≢false (sym (both m.readable false e).1)))
