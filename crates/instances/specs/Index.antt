-- TlvIndex, document 01, "Requests, in this order": path `c` without `q` gets TlvIndex, listing, ascending and once each, the ids there now.
use Rattle.std.specs.Prelude.{ℕ, ◌≤◌, ◌≡◌, List, map, Bool, true, ◌&&◌, ◌||◌, length}
use Rattle.buffer.specs.Listed.{listed}
use Rattle.index.specs.Index.{visible, ids_there, Ascending}
use Rattle.own.specs.Own.{own_records}
use Rattle.schedule.specs.declared.Point.{Point}
use Rattle.state.specs.declared.State.{State}
use Rattle.store.specs.Store.{acceptable}
use Rattle.tlv.specs.Record.{records_from}
use Rattle.tlv.specs.declared.Record.{Record}
use Rattle.calls.specs.Made.{Made}

-- the types of a payload's records
unfoldable pub types_in : List ℕ → List ℕ
types_in s = map (λ (r : Record). r.kind) (records_from s 0).items

-- there now: the type of a record of the store or of the agent's own, save those that count as not there
unfoldable pub is_there : List ℕ → List ℕ → ℕ → Bool
is_there store own id = visible id && (listed id (types_in store) || listed id (types_in own))

-- listed are the ids there and no others, where they are among 68 types
abbrev pub IndexLists : Type 0
IndexLists =
    (store own types : List ℕ) → length types ≤ 68 → ((id : ℕ) → is_there store own id ≡ true → listed id types ≡ true)
    → (id : ℕ) → listed id (ids_there store own) ≡ is_there store own id

-- ascending and once each, every id that is there and no other
pub record Lists (store own ids : List ℕ) : Type 0 where
  pub ascends : Ascending 0 ids
  pub exact : (id : ℕ) → listed id ids ≡ is_there store own id

-- so it is with every state made and every store that is not refused: the ids that `index_got` writes are all that are there
abbrev pub IndexExact : Type 0
IndexExact =
    (s : State) → Made s → (store : List ℕ) → acceptable store ≡ true → (time : Point)
    → Lists store (own_records s time) (ids_there store (own_records s time))
