-- Records that the agent writes, one behind the other, carry text only, and so does what a GET copies of them.
use Prim.Native.Nat.{ℕ, ◌+◌, ◌-◌, ◌^◌, ◌<◌}
use mathlib.Core.Path.{◌≡◌, refl, sym, ap, ◌∙◌}
use mathlib.Core.List.{List, [], ◌∷◌, ◌++◌, append-nil, append_assoc}
use mathlib.Core.Bool.{true}
use native.Mathlib.Omega.{arith}
use lib.ListN.{length, take, drop, length-append}
use lib.Seq.{take_at, drop_at}
use Rattle.buffer.proofs.Tests.{pick-both}
use Rattle.copy.proofs.Laws.{copies_at, copies-start, copies-end, copies-more}
use Rattle.copy.specs.Shown.{is_own, is_hidden, source_of, chosen, copies, shown_of, shown_all}
use Rattle.copy.specs.declared.Choice.{Choice}
use Rattle.copy.specs.declared.Choice.TheVariants.{Only}
use Rattle.store.specs.Store.{acceptable}
use Rattle.tables.specs.Statements.{Texts}
use Rattle.tables.specs.Table.{Values, write_by}
use Rattle.tlv.proofs.Theorems.{standing, record-back}
use Rattle.tlv.specs.Record.{record_bytes}
use Rattle.calls.specs.Text.{table_of, Carries, nothing, copied, written, both}

-- such records, with lengths that can be read
pub data Own : List ℕ → Type 0 where
  empty : Own []
  single : (kind : ℕ) (v : Values (table_of kind)) → kind < 2 ^ 64 → Texts (table_of kind) v → length (write_by (table_of kind) v) < 2 ^ 64
      → Own (record_bytes kind (write_by (table_of kind) v))
  joined : {a b : List ℕ} → Own a → Own b → Own (a ++ b)

-- bytes in the middle
middle : (s front bs rest : List ℕ) (at : ℕ) → s ≡ front ++ (bs ++ rest) → at ≡ length front → take (at + length bs - at) (drop at s) ≡ bs
middle s front bs rest at e p =
    rw (e, drop_at front (bs ++ rest) at (sym p)) (take_at bs rest (at + length bs - at) (omega arith))

module _ (store : List ℕ) where
  pub own-carries : {bs : List ℕ} → Own bs → Carries store bs
  own-carries empty = nothing
  own-carries (single k v h t l) = written k v t
  own-carries (joined a b) = both (own-carries a) (own-carries b)

  -- of such records, wherever they stand, some are copied, and then those behind them
  module _ (s : List ℕ) (c : Choice) where
    copied_at : {bs : List ℕ} → Own bs → (front rest : List ℕ) (at end : ℕ) → s ≡ front ++ (bs ++ rest) → at ≡ length front → end ≡ at + length bs
        → Carries store (copies_at s c end) → Carries store (copies_at s c at)
    copied_at empty front rest at end e p q k = let z : end ≡ at = omega arith in rw z at k
    copied_at (single kind v h t l) front rest at end e p q k =
        let w = write_by (table_of kind) v in
        let bs = record_bytes kind w in
        rw (copies-more s c at (standing at kind w) (record-back s front at kind w rest e p h l), middle s front bs rest at e p, ← q)
        (both (pick-both (Carries store) (chosen c kind) bs [] (λ _. written kind v t) (λ _. nothing)) k)
    copied_at (joined {a = a} {b = b} x y) front rest at end e p q k =
        let f : s ≡ front ++ (a ++ (b ++ rest)) = e ∙ ap (◌++◌ front) (append_assoc a b rest) in
        let n = length-append a b in
        copied_at x front (b ++ rest) at (at + length a) f p refl
        (copied_at y (front ++ a) rest (at + length a) end (f ∙ sym (append_assoc front a (b ++ rest)))
        (simp length-append (omega arith)) (omega arith) k)

  -- and so of nothing but such records
  pub own-copied : {bs : List ℕ} → Own bs → (c : Choice) → Carries store (copies bs c)
  own-copied {bs} o c =
      rw (copies-start bs c)
      (copied_at bs c o [] [] 0 (length bs) (sym (append-nil bs)) refl (omega arith) (rw (copies-end bs c (length bs) (omega arith)) nothing))

  -- what a GET shows: nothing, the agent's own, or the store's
  module _ (ok : acceptable store ≡ true) {own : List ℕ} (o : Own own) where
    pub shown-carries : (id : ℕ) → Carries store (shown_of store own id)
    unfolding shown_of source_of
    shown-carries id =
        pick-both (λ (l : List ℕ). Carries store (copies l (Only id))) (is_hidden id) _ _ (λ _. own-copied empty (Only id))
        (λ _. pick-both (λ (l : List ℕ). Carries store (copies l (Only id))) (is_own id) _ _ (λ _. own-copied o (Only id)) (λ _. copied ok (Only id)))

    pub all-shown-carry : (ids : List ℕ) → Carries store (shown_all store own ids)
    unfolding shown_all
    all-shown-carry [] = nothing
    all-shown-carry (id ∷ ids) = both (shown-carries id) (all-shown-carry ids)
