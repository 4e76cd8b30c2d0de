-- Of records that the agent writes, one behind the other, a GET copies the stretches of the types that are asked for.
use Rattle.std.specs.Prelude.{Some}
use Prim.Native.Nat.{ℕ, ◌+◌, ◌-◌, ◌^◌, ◌<◌}
use mathlib.Core.Path.{◌≡◌, refl, sym, ap, ◌∙◌}
use mathlib.Core.List.{List, [], ◌++◌, append-nil, append_assoc}
use mathlib.Core.Bool.{Bool, true, false}
use mathlib.Core.Logic.{⊎_elim}
use native.Mathlib.Omega.{arith}
use borrow.Author.Tests.{eqb-true}
use lib.Dec.{eqb}
use lib.ListN.{length, take, drop, length-append}
use lib.Seq.{take_at, drop_at}
use Rattle.buffer.specs.Pick.{pick}
use Rattle.instances.proofs.Exact.{one_of}
use Rattle.copy.proofs.Laws.{copies_at, copies-start, copies-end, copies-more}
use Rattle.copy.specs.Shown.{is_own, chosen, copies}
use Rattle.copy.specs.declared.Choice.{Choice}
use Rattle.tables.specs.Statements.{Texts}
use Rattle.tables.specs.Table.{Values, write_by}
use Rattle.tlv.proofs.Theorems.{standing, record-back}
use Rattle.tlv.specs.Record.{record_at, record_bytes}
use Rattle.calls.specs.Text.{table_of}

-- such records of one type, with lengths that can be read
pub data Own (kind : ℕ) : List ℕ → Type 0 where
  empty : Own kind []
  single : (v : Values (table_of kind)) → is_own kind ≡ true → Texts (table_of kind) v → length (write_by (table_of kind) v) < 2 ^ 64
      → Own kind (record_bytes kind (write_by (table_of kind) v))
  joined : {a b : List ℕ} → Own kind a → Own kind b → Own kind (a ++ b)

-- of several types, a stretch for each
pub data Owns : List ℕ → Type 0 where
  last : (kind : ℕ) {a : List ℕ} → Own kind a → Owns a
  ahead : (kind : ℕ) {a b : List ℕ} → Own kind a → Owns b → Owns (a ++ b)

-- the stretches of the types that are chosen
unfoldable pub stretches : Choice → {bs : List ℕ} → Owns bs → List ℕ
stretches c (last kind {a = a} o) = pick (chosen c kind) a []
stretches c (ahead kind {a = a} o os) = pick (chosen c kind) a [] ++ stretches c os

own-small : (kind : ℕ) → is_own kind ≡ true → kind < 2 ^ 64
unfolding is_own
own-small kind h =
    ⊎_elim (λ e. let a = eqb-true kind 13 e in omega arith)
    (λ h. ⊎_elim (λ e. let a = eqb-true kind 18 e in omega arith)
    (λ h. ⊎_elim (λ e. let a = eqb-true kind 58 e in omega arith) (λ e. let a = eqb-true kind 75 e in omega arith) (one_of (eqb kind 58) _ h))
    (one_of (eqb kind 18) _ h))
    (one_of (eqb kind 13) _ h)

-- bytes in the middle
middle : (s front bs rest : List ℕ) (at : ℕ) → s ≡ front ++ (bs ++ rest) → at ≡ length front → take (at + length bs - at) (drop at s) ≡ bs
middle s front bs rest at e p =
    rw (e, drop_at front (bs ++ rest) at (sym p)) (take_at bs rest (at + length bs - at) (omega arith))

-- what is picked of two, and of both together
pick-none : (t : Bool) (rest : List ℕ) → rest ≡ pick t [] [] ++ rest
pick-none true rest = refl
pick-none false rest = refl

pick-join : (t : Bool) (a b rest : List ℕ) → pick t a [] ++ (pick t b [] ++ rest) ≡ pick t (a ++ b) [] ++ rest
pick-join true a b rest = sym (append_assoc a b rest)
pick-join false a b rest = refl

-- of such records, wherever they stand, the chosen are copied as they are, and then those behind them
module _ (s : List ℕ) (c : Choice) where
  own_at : (kind : ℕ) {bs : List ℕ} → Own kind bs → (front rest : List ℕ) (at end : ℕ) → s ≡ front ++ (bs ++ rest) → at ≡ length front
      → end ≡ at + length bs → copies_at s c at ≡ pick (chosen c kind) bs [] ++ copies_at s c end
  own_at kind empty front rest at end e p q =
      let z : end ≡ at = omega arith in
      rw z (pick-none (chosen c kind) (copies_at s c at))
  own_at kind (single v h t l) front rest at end e p q =
      let w = write_by (table_of kind) v in
      let bs = record_bytes kind w in
      rw (copies-more s c at (standing at kind w) (record-back s front at kind w rest e p (own-small kind h) l), middle s front bs rest at e p, ← q)
  own_at kind (joined {a = a} {b = b} x y) front rest at end e p q =
      let f : s ≡ front ++ (a ++ (b ++ rest)) = e ∙ ap (◌++◌ front) (append_assoc a b rest) in
      let n = length-append a b in
      let t = chosen c kind in
      own_at kind x front (b ++ rest) at (at + length a) f p refl
      ∙ ap (◌++◌ (pick t a []))
      (own_at kind y (front ++ a) rest (at + length a) end (f ∙ sym (append_assoc front a (b ++ rest))) (simp length-append (omega arith)) (omega arith))
      ∙ pick-join t a b (copies_at s c end)

  owns-at : {bs : List ℕ} (os : Owns bs) (front : List ℕ) (at : ℕ) → s ≡ front ++ bs → at ≡ length front → copies_at s c at ≡ stretches c os
  unfolding stretches
  owns-at (last kind {a = a} o) front at e p =
      let q : length s ≡ at + length a = ap length e ∙ length-append front a ∙ ap (λ (n : ℕ). n + length a) (sym p) in
      own_at kind o front [] at (length s) (e ∙ ap (◌++◌ front) (sym (append-nil a))) p q
      ∙ ap (◌++◌ (pick (chosen c kind) a [])) (copies-end s c (length s) (omega arith))
      ∙ append-nil (pick (chosen c kind) a [])
  owns-at (ahead kind {a = a} {b = b} o os) front at e p =
      own_at kind o front b at (at + length a) e p refl
      ∙ ap (◌++◌ (pick (chosen c kind) a [])) (owns-at os (front ++ a) (at + length a) (e ∙ sym (append_assoc front a b)) (simp length-append (omega arith)))

-- so of nothing but such records the stretches are copied
pub owns-copied : {bs : List ℕ} (os : Owns bs) (c : Choice) → copies bs c ≡ stretches c os
owns-copied {bs} os c = copies-start bs c ∙ owns-at bs c os [] 0 refl refl

-- and of nothing, nothing
pub none-copied : (c : Choice) → copies [] c ≡ []
none-copied c = copies-start [] c ∙ copies-end [] c 0 (omega arith)

-- what holds behind each such record, if it holds before it, holds before all of them
module _ (s : List ℕ) (P : ℕ → Type 0)
    (step : (kind : ℕ) (v : Values (table_of kind)) (at : ℕ) → let w = write_by (table_of kind) v in is_own kind ≡ true
    → record_at s at ≡ Some (standing at kind w) → P (at + length (record_bytes kind w)) → P at) where
  own-from : (kind : ℕ) {bs : List ℕ} → Own kind bs → (front rest : List ℕ) (at end : ℕ) → s ≡ front ++ (bs ++ rest) → at ≡ length front
      → end ≡ at + length bs → P end → P at
  own-from kind empty front rest at end e p q k = let z : end ≡ at = omega arith in rw z at k
  own-from kind (single v h t l) front rest at end e p q k =
      let w = write_by (table_of kind) v in
      step kind v at h (record-back s front at kind w rest e p (own-small kind h) l) (rw q at k)
  own-from kind (joined {a = a} {b = b} x y) front rest at end e p q k =
      let f : s ≡ front ++ (a ++ (b ++ rest)) = e ∙ ap (◌++◌ front) (append_assoc a b rest) in
      let n = length-append a b in
      own-from kind x front (b ++ rest) at (at + length a) f p refl
      (own-from kind y (front ++ a) rest (at + length a) end (f ∙ sym (append_assoc front a (b ++ rest)))
      (simp length-append (omega arith)) (omega arith) k)

  owns-from : {bs : List ℕ} → Owns bs → (front : List ℕ) (at : ℕ) → s ≡ front ++ bs → at ≡ length front → P (length s) → P at
  owns-from (last kind {a = a} o) front at e p k =
      let q : length s ≡ at + length a = ap length e ∙ length-append front a ∙ ap (λ (n : ℕ). n + length a) (sym p) in
      own-from kind o front [] at (length s) (e ∙ ap (◌++◌ front) (sym (append-nil a))) p q k
  owns-from (ahead kind {a = a} {b = b} o os) front at e p k =
      own-from kind o front b at (at + length a) e p refl
      (owns-from os (front ++ a) (at + length a) (e ∙ sym (append_assoc front a b)) (simp length-append (omega arith)) k)

  pub owns-walked : Owns s → P (length s) → P 0
  owns-walked os k = owns-from os [] 0 refl refl k
