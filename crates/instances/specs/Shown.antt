-- What a GET shows of an id, document 01, "Requests, in this order": 13, 18, 58, 75 from the agent's own records, others from the host's store.
use Rattle.std.specs.Prelude.{ℕ, ◌≡◌, List, [], ◌∷◌}
use Rattle.copy.specs.Shown.{copies, shown_of}
use Rattle.copy.specs.declared.Choice.TheVariants.{Only}
use Rattle.encode.specs.Write.{time_record}
use Rattle.images.specs.Images.{images_shown}
use Rattle.own.specs.Own.{report_shown, groups_shown, own_records}
use Rattle.protobuf.specs.Each.{Each}
use Rattle.schedule.specs.declared.Point.{Point}
use Rattle.state.specs.Groups.{held_pairs}
use Rattle.state.specs.declared.State.{State}
use Rattle.calls.specs.Made.{Made}

-- of an id of its own, whatever the store holds
abbrev pub Shows : ℕ → (State → Point → List ℕ) → Type 0
Shows id written = (s : State) (store : List ℕ) (time : Point) → Made s → shown_of store (own_records s time) id ≡ written s time

-- the own records that are read again to be copied are exactly those that were written. That each reads back as the values it was written from is `WrittenBack`
pub record OwnShown : Type 0 where
  pub report : Shows 13 (λ s time. report_shown s.assigned)
  pub time : Shows 18 (λ s time. time_record time)
  pub groups : Shows 58 (λ s time. groups_shown (held_pairs s.assigned.groups))
  pub images : Shows 75 (λ s time. images_shown s.images)
  -- TlvIndex (1), DeviceID (2) and 7 count as not there
  pub hidden : (store own : List ℕ) → Each (λ (id : ℕ). shown_of store own id ≡ []) (1 ∷ 2 ∷ 7 ∷ [])
  -- nothing else is taken from the agent's own
  pub stored : (store own : List ℕ) (id : ℕ) → Each (λ (k : ℕ). id ≡ k → ⊥) (1 ∷ 2 ∷ 7 ∷ 13 ∷ 18 ∷ 58 ∷ 75 ∷ [])
      → shown_of store own id ≡ copies store (Only id)
