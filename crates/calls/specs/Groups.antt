-- Groups by type, document 02, Q-3: what an acknowledgement makes of the groups held. That no two share a type is in `AssignedSized`.
use Rattle.std.specs.Prelude.{ℕ, ◌≤◌, ◌<◌, ◌≡◌, List, [], ◌∷◌, true, false, ◌⊎◌, eqb, drop, None, Option, Some, Ok}
use Rattle.ack.specs.Take.{acknowledged}
use Rattle.buffer.specs.Pick.{pick}
use Rattle.class.specs.Class.{class_of}
use Rattle.class.specs.declared.Class.TheVariants.{Acknowledgement}
use Rattle.coap.specs.Frame.{frame_of}
use Rattle.coap.specs.declared.Frame.{Frame}
use Rattle.decode.specs.Read.{group_of}
use Rattle.learn.specs.Learn.{learnt_from}
use Rattle.outgoing.specs.declared.Report.{Report}
use Rattle.schedule.specs.declared.Point.{Point}
use Rattle.state.specs.Groups.{held_pairs, type_at}
use Rattle.state.specs.declared.Groups.{Groups}
use Rattle.state.specs.declared.Pair.{Pair}
use Rattle.state.specs.declared.State.{State}
use Rattle.tlv.specs.Record.{Tlv, records}
use Rattle.calls.specs.Boot.{boot_of}
use Rattle.calls.specs.Datagram.{Call, datagram_of}
use Rattle.calls.specs.Made.{Made}
use Rattle.calls.specs.Own.{round_of, report_of}

-- the id held for a type
unfoldable pub id_held : List Pair → ℕ → Option ℕ
id_held [] type = None
id_held (p ∷ ps) type = pick (eqb p.kind type) (Some p.id) (id_held ps type)

-- what a GroupAssign makes of it; an incomplete one is ignored
abbrev pub id_assigned : ℕ → Option ℕ → Option ℕ → Option ℕ → Option ℕ
id_assigned type was (Some kind) (Some id) = pick (eqb kind type) (Some id) was
id_assigned type was (Some kind) None = was
id_assigned type was None id = was

-- several assignments in one acknowledgement apply in order
unfoldable pub id_after : ℕ → Option ℕ → List Tlv → Option ℕ
id_after type was [] = was
id_after type was (t ∷ ts) =
    id_after type (pick (eqb t.kind 55) (id_assigned type was (group_of t.value).kind (group_of t.value).id) was) ts

-- each type has the id last assigned to it, or the one that it had; those held stay at their places, new ones are behind them
pub record ByType (before after : Groups) (p : List ℕ) : Type 0 where
  pub ids : (type : ℕ) → id_held (held_pairs after) type ≡ id_after type (id_held (held_pairs before) type) (records p)
  pub count : before.count ≤ after.count
  pub places : (i : ℕ) → i < before.count → type_at after i ≡ type_at before i

-- nine types would have an id
pub record Nine (id : ℕ → Option ℕ) : Type 0 where
  pub type : ℕ → ℕ
  pub differ : (i j : ℕ) → i < j → j < 9 → type i ≡ type j → ⊥
  pub held : (i : ℕ) → i < 9 → id (type i) ≡ None → ⊥

-- an acknowledgement that is accepted assigns groups by type; it is said to need a ninth group only where it does; nothing else moves what was assigned
pub record GroupsByType : Type 0 where
  pub accepted : (s : State) (id : ℕ) (p : List ℕ) (time : Point) (verdict : ℕ) → Made s → s.registration.accepted ≡ false
      → (acknowledged s id p time verdict).registration.accepted ≡ true
      → ByType s.assigned.groups (acknowledged s id p time verdict).assigned.groups p
  pub ninth : (s : State) (p : List ℕ) (time : Point) → Made s → (learnt_from s.device s.registration s.assigned time p).readable ≡ true
      → (learnt_from s.device s.registration s.assigned time p).needs_ninth ≡ true
      → Nine (λ type. id_after type (id_held (held_pairs s.assigned.groups) type) (records p))
  pub unaccepted : (s : State) (id : ℕ) (p : List ℕ) (time : Point) (verdict : ℕ)
      → (s.registration.accepted ≡ true) ⊎ ((acknowledged s id p time verdict).registration.accepted ≡ false)
      → (acknowledged s id p time verdict).assigned ≡ s.assigned
  pub called : (s : State) (image : List ℕ) (c : Call) → ((datagram_of s image c).state.assigned ≡ s.assigned)
      ⊎ ((f : Frame) × (frame_of c.bytes ≡ Ok f) × (class_of f.kind f.code ≡ Acknowledgement)
      × ((datagram_of s image c).state ≡ acknowledged s f.id (drop f.payload c.bytes) c.time c.verdict))
  pub rounded : (s : State) (out : ℕ) (store : List ℕ) (time : Point) → (round_of s out store time).state.assigned ≡ s.assigned
  pub reported : (s : State) (out : ℕ) (store : List ℕ) (time : Point) (which : Report) → (report_of s out store time which).state.assigned ≡ s.assigned
  pub booted : (s : State) → (boot_of s).assigned ≡ s.assigned
