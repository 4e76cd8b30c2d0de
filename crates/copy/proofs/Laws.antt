-- Laws of copying: appending in pieces, and the chosen records from a position on.
use Rattle.std.specs.Prelude.{None, Some}
use Prim.Native.Nat.{ℕ, suc, ◌+◌, ◌-◌, ◌≤◌, ◌<◌}
use mathlib.Core.Path.{◌≡◌, refl, sym, ◌∙◌}
use mathlib.Core.List.{List, [], ◌∷◌, ◌++◌, append-nil, append_assoc}
use mathlib.Core.Bool.{Bool, true, false, not}
use mathlib.Core.Logic.{inl, inr}
use native.Mathlib.Omega.{arith}
use borrow.Author.Tests.{ne_eqb}
use types.Run.{OneOf}
use lib.Dec.{eqb}
use lib.ListN.{length, take, drop, get_or, length-take, drop_of_length-le}
use Rattle.buffer.specs.Pick.{pick}
use Rattle.buffer.specs.Put.{Put, Appended}
use Rattle.buffer.proofs.Tests.{head}
use Rattle.buffer.proofs.Puts.{appended-put, appended-none, appended-most, appended-join}
use Rattle.tlv.specs.Record.{record_at, records_from}
use Rattle.tlv.specs.declared.Record.{Record}
use Rattle.tlv.proofs.Laws.{records-end, records-more, records-unreadable}
use Rattle.copy.specs.Shown.{is_own, is_hidden, source_of, chosen, copies_from, copies, shown_of, shown_all}
use Rattle.copy.specs.declared.Choice.{Choice}
use Rattle.copy.specs.declared.Choice.TheVariants.{Only, Except}

-- `rest` is what is still to be appended to `out` at `end`, for `all` to be appended to `out₀` at `at`
pub record Going (out₀ : List ℕ) (at : ℕ) (all out : List ℕ) (end : ℕ) (rest : List ℕ) : Type 0 where
  pub done : List ℕ
  pub appended : Appended out₀ at done out end
  pub whole : done ++ rest ≡ all

pub going_start : (out : List ℕ) (at : ℕ) (all : List ℕ) → at ≤ length out + 1 → Going out at all out at all
going_start out at all h = record { done = []; appended = appended-none out at h; whole = refl }

pub going_more : {out₀ : List ℕ} {at : ℕ} {all out : List ℕ} {end : ℕ} (a rest : List ℕ) {left : List ℕ} {n : ℕ}
    → Going out₀ at all out end (a ++ rest) → Appended out end a left n → Going out₀ at all left n rest
going_more a rest g p =
    record {
      done = g.done ++ a;
      appended = appended-join g.done a g.appended p;
      whole = append_assoc g.done a rest ∙ g.whole;
    }

pub going_end : {out₀ : List ℕ} {at : ℕ} {all out : List ℕ} {end : ℕ} {rest : List ℕ} → Going out₀ at all out end rest → rest ≡ [] → Appended out₀ at all out end
going_end {out₀} {at} {all} {out} {end} g e =
    let w : g.done ≡ all = sym (append-nil g.done) ∙ (rw e at g.whole) in
    rw w at g.appended

pub going-most : {out₀ : List ℕ} {at : ℕ} {all out : List ℕ} {end : ℕ} {rest : List ℕ} → Going out₀ at all out end rest → end ≤ length out + 1
going-most g = appended-most g.appended

-- the agent's own ids, as a match tests them
pub own-one : (k : ℕ) → OneOf (13 ∷ 18 ∷ 58 ∷ 75 ∷ []) k → is_own k ≡ true
unfolding is_own
own-one k (inl e) = rw e
own-one k (inr (inl e)) = rw e
own-one k (inr (inr (inl e))) = rw e
own-one k (inr (inr (inr e))) = rw e

pub own-other : (k : ℕ) → (OneOf (13 ∷ 18 ∷ 58 ∷ 75 ∷ []) k → ⊥) → is_own k ≡ false
unfolding is_own
own-other k h = rw (ne_eqb k 13 (λ q. h (inl q)), ne_eqb k 18 (λ q. h (inr (inl q))), ne_eqb k 58 (λ q. h (inr (inr (inl q)))), ne_eqb k 75 (λ q. h (inr (inr (inr q)))))

-- the ids that count as not there, likewise
pub hidden-one : (k : ℕ) → OneOf (1 ∷ 7 ∷ []) k → is_hidden k ≡ true
unfolding is_hidden
hidden-one k (inl e) = rw e
hidden-one k (inr e) = rw e

pub hidden-2 : (k : ℕ) → k ≡ 2 → is_hidden k ≡ true
unfolding is_hidden
hidden-2 k e = rw e

pub hidden-other : (k : ℕ) → (OneOf (1 ∷ 7 ∷ []) k → ⊥) → (k ≡ 2 → ⊥) → is_hidden k ≡ false
unfolding is_hidden
hidden-other k h g = rw (ne_eqb k 1 (λ q. h (inl q)), ne_eqb k 2 g, ne_eqb k 7 (λ q. h (inr q)))

-- where the records of an id are
module _ (store own : List ℕ) (id : ℕ) where
  pub source-hidden : is_hidden id ≡ true → source_of store own id ≡ []
  unfolding source_of
  source-hidden h = rw h

  pub source-own : is_hidden id ≡ false → is_own id ≡ true → source_of store own id ≡ own
  unfolding source_of
  source-own h o = rw (h, o)

  pub source-store : is_hidden id ≡ false → is_own id ≡ false → source_of store own id ≡ store
  unfolding source_of
  source-store h o = rw (h, o)

-- one record, if it is asked for
pub copied-not : (wanted : Bool) (bytes out : List ℕ) (at : ℕ) → at ≤ length out + 1 → wanted ≡ false → Appended out at (pick wanted bytes []) out at
copied-not wanted bytes out at h e = rw e (appended-none out at h)

pub copied : (wanted : Bool) {bytes out : List ℕ} {at : ℕ} {left : List ℕ} {n : ℕ} → wanted ≡ true → Put out at bytes left n → Appended out at (pick wanted bytes []) left n
copied wanted e p = rw e (appended-put p)

-- whether a record is chosen
pub chosen-only : (c : Choice) (k id : ℕ) → c ≡ Only id → eqb k id ≡ chosen c k
unfolding chosen
chosen-only c k id e = rw e

pub chosen-except : (c : Choice) (k id : ℕ) → c ≡ Except id → not (eqb k id) ≡ chosen c k
unfolding chosen
chosen-except c k id e = rw e

-- the chosen records from a position on
unfoldable pub copies_at : List ℕ → Choice → ℕ → List ℕ
copies_at s c at = copies_from s c at (records_from s at).items

module _ (s : List ℕ) (c : Choice) where
  pub copies-start : copies s c ≡ copies_at s c 0
  unfolding copies copies_at
  copies-start = refl

  pub copies-end : (at : ℕ) → length s ≤ at → copies_at s c at ≡ []
  unfolding copies_at copies_from
  copies-end at h = rw (records-end s at h)

  pub copies-unreadable : (at : ℕ) → at < length s → record_at s at ≡ None → copies_at s c at ≡ []
  unfolding copies_at copies_from
  copies-unreadable at h e = rw (records-unreadable s at h e)

  pub copies-more : (at : ℕ) (r : Record) → record_at s at ≡ Some r
      → copies_at s c at ≡ pick (chosen c r.kind) (take (r.end - at) (drop at s)) [] ++ copies_at s c r.end
  unfolding copies_at copies_from
  copies-more at r e = rw (records-more s at r e)

  -- one record further
  pub going-record : {out₀ : List ℕ} {at₀ : ℕ} {all out : List ℕ} {end : ℕ} {left : List ℕ} {n : ℕ} (at : ℕ) (r : Record) (wanted : Bool) → record_at s at ≡ Some r
      → wanted ≡ chosen c r.kind → Going out₀ at₀ all out end (copies_at s c at)
      → Appended out end (pick wanted (take (r.end - at) (drop at s)) []) left n
      → Going out₀ at₀ all left n (copies_at s c r.end)
  going-record at r wanted e w g p =
      going_more (pick (chosen c r.kind) (take (r.end - at) (drop at s)) []) (copies_at s c r.end) (rw (copies-more at r e) at g) (rw w at p)

-- what there is of an id, and of each of a list
pub shown : (store own : List ℕ) (id : ℕ) {s out : List ℕ} {at : ℕ} {left : List ℕ} {n : ℕ} → s ≡ source_of store own id → Appended out at (copies s (Only id)) left n
    → Appended out at (shown_of store own id) left n
unfolding shown_of
shown store own id e p = rw e at p

-- the ids held from a place of the list on
module _ (store own list : List ℕ) (count : ℕ) where
  unfoldable pub shown_from : ℕ → List ℕ
  shown_from i = shown_all store own (drop i (take count list))

  pub shown-start : shown_all store own (take count list) ≡ shown_from 0
  unfolding shown_from
  shown-start = refl

  pub shown-past : (i : ℕ) → count ≤ i → shown_from i ≡ []
  unfolding shown_from shown_all
  shown-past i h = rw (drop_of_length-le (take count list) {i = i} (simp length-take (omega arith)))

  pub shown-end : (i : ℕ) → length list ≤ i → shown_from i ≡ []
  unfolding shown_from shown_all
  shown-end i h = rw (drop_of_length-le (take count list) {i = i} (simp length-take (omega arith)))

  pub going-id : {out₀ : List ℕ} {at₀ : ℕ} {all out : List ℕ} {end : ℕ} {left : List ℕ} {n : ℕ} (i id : ℕ) → i < count → i < length list → id ≡ get_or list i 0
      → Going out₀ at₀ all out end (shown_from i) → Appended out end (shown_of store own id) left n → Going out₀ at₀ all left n (shown_from (i + 1))
  unfolding shown_from shown_all
  going-id i id h k e g p =
      let z : i + 1 ≡ suc i = omega arith in
      rw z (going_more (shown_of store own id) (shown_all store own (drop (suc i) (take count list))) (rw (head list count i 0 h k, ← e) at g) p)
