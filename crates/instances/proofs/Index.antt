-- What `specs/Index.antt` states: the agent's own records are of four types, so at most 68 ids are there.
use Prim.Native.Nat.{ℕ, ◌≤◌}
use mathlib.Core.Path.{◌≡◌, refl, sym, ap, ◌∙◌}
use mathlib.Core.List.{List, [], ◌∷◌, ◌++◌, map}
use mathlib.Core.Bool.{true, true≢false, ◌||◌, or-true, or-false, or_assoc}
use mathlib.Core.Logic.{⊎_elim}
use native.Mathlib.Omega.{arith}
use borrow.Author.Tests.{eqb-true}
use lib.Dec.{eqb}
use lib.ListN.{length, length-append, length-map}
use Rattle.buffer.specs.Listed.{listed}
use Rattle.buffer.proofs.Tests.{both}
use Rattle.copy.specs.Shown.{is_own}
use Rattle.index.specs.Index.{visible}
use Rattle.instances.proofs.Exact.{one_of, index-lists}
use Rattle.index.proofs.Laws.{index-ascends}
use Rattle.own.specs.Own.{own_records}
use Rattle.protobuf.specs.Each.{Each}
use Rattle.tables.specs.Table.{write_by}
use Rattle.tlv.proofs.Laws.{records-end, records-more}
use Rattle.tlv.proofs.Theorems.{standing}
use Rattle.tlv.specs.Record.{records_from}
use Rattle.tlv.specs.declared.Record.{Record}
use Rattle.store.specs.Store.{acceptable}
use Rattle.instances.specs.Index.{types_in, is_there, IndexExact}
use Rattle.calls.specs.Text.{table_of}
use Rattle.instances.proofs.Copied.{Owns, owns-walked}
use Rattle.instances.proofs.OwnStretches.{records-own}
use Rattle.calls.proofs.Sizes.{made-sized}
use Rattle.instances.proofs.Few.{stored-few}

abbrev OfOwnType : Record → Type 0
OfOwnType r = is_own r.kind ≡ true

own-types : (bs : List ℕ) → Owns bs → Each OfOwnType (records_from bs 0).items
own-types bs o =
    owns-walked bs (λ (at : ℕ). Each OfOwnType (records_from bs at).items)
    (λ kind v at h r k. rw (records-more bs at (standing at kind (write_by (table_of kind) v)) r) (h, k))
    o (rw (records-end bs (length bs) (omega arith)) tt)

own-listed : (id : ℕ) (rs : List Record) → Each OfOwnType rs → listed id (map (λ (r : Record). r.kind) rs) ≡ true → is_own id ≡ true
unfolding listed
own-listed id [] k h = absurd (true≢false (sym h))
own-listed id (r ∷ rs) k h =
    ⊎_elim (λ e. rw (eqb-true id r.kind e) k.0) (own-listed id rs k.1) (one_of (eqb id r.kind) _ h)

listed-behind : (id : ℕ) (a b : List ℕ) → listed id (a ++ b) ≡ (listed id a || listed id b)
unfolding listed
listed-behind id [] b = refl
listed-behind id (x ∷ a) b = ap (◌||◌ (eqb id x)) (listed-behind id a b) ∙ sym (or_assoc (eqb id x) (listed id a) (listed id b))

-- the types of a store's records and the agent's own
abbrev types : List ℕ → List ℕ
types store = types_in store ++ (13 ∷ 18 ∷ 58 ∷ 75 ∷ [])

few-types : (store : List ℕ) → acceptable store ≡ true → length (types store) ≤ 68
unfolding types_in
few-types store h = let few = stored-few store h in simp (length-append, length-map) (omega arith)

own-among : (id : ℕ) → is_own id ≡ listed id (13 ∷ 18 ∷ 58 ∷ 75 ∷ [])
unfolding is_own listed
own-among id = rw (or-false (eqb id 75))

module _ (store own : List ℕ) (o : Owns own) where
  there-among : (id : ℕ) → is_there store own id ≡ true → listed id (types store) ≡ true
  unfolding is_there types_in
  there-among id h =
      listed-behind id (types_in store) _
      ∙ ⊎_elim (λ e. rw e)
      (λ e. rw (← own-among id, own-listed id (records_from own 0).items (own-types own o) e) (or-true (listed id (types_in store))))
      (one_of (listed id (types_in store)) _ (both (visible id) _ h).1)

pub index-exact : IndexExact
index-exact s m store h time =
    let own = own_records s time in
    let o = records-own s time (made-sized s m) in
    record { ascends = index-ascends store own; exact = index-lists store own (types store) (few-types store h) (there-among store own o) }
