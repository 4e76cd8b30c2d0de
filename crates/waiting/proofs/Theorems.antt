-- The statements of specs/Statements.antt.
use Prim.Native.Nat.{ℕ, suc, ◌≤◌, ◌<◌}
use mathlib.Core.Path.{◌≡◌, refl, subst}
use mathlib.Core.List.{List, ◌++◌}
use mathlib.Core.Bool.{true, false}
use native.Mathlib.Omega.{arith}
use lib.ListN.{length, take, drop}
use Rattle.std.specs.Prelude.{None, Some}
use Rattle.schedule.specs.declared.Length.{Length}
use Rattle.schedule.specs.declared.Point.{Point}
use Rattle.state.specs.Waiting.{held_answers, place_at}
use Rattle.state.specs.declared.Waiting.{Waiting}
use Rattle.state.specs.declared.What.{What}
use Rattle.waiting.specs.Sized.{WaitingSized}
use Rattle.waiting.specs.Statements.{TakenAt, TakesEarliest, KeptIn, KeepsBytes}
use Rattle.waiting.specs.Waiting.{is_full, kept, kept_bytes, earliest, due_of, left_by}
use Rattle.waiting.specs.declared.Due.{Due}
use Rattle.waiting.proofs.Bytes.{count_kept, place-new, kept_new, kept-others}
use Rattle.waiting.proofs.Laws.{over_in, best-is, others-are, due-cases}

-- what some holds
same-some : {a b : Due} → Some a ≡ Some b → a ≡ b
same-some e = cc

module _ (w : Waiting) (time : Point) (h : length w.list ≡ 4) (k : w.count ≤ 4) where
  no_one : due_of w time ≡ None → ((j : ℕ) → j < w.count → time.0 < over_in w.list j) × (left_by w (due_of w time) ≡ w)
  unfolding left_by
  no_one =
      due-cases w time (λ d. d ≡ None → ((j : ℕ) → j < w.count → time.0 < over_in w.list j) × (left_by w d ≡ w))
      (λ e n. (λ j l. absurd (omega arith), refl))
      (λ e n. (λ j l. let z = (best-is w.list w.count (omega arith) (omega arith)).least j l in omega arith, refl))
      (λ e f n. cc)

  abbrev i : ℕ
  i = earliest w.list w.count

  abbrev Taken : Due → Type 0
  Taken d =
      (0 < w.count) × (over_in w.list i ≤ time.0) × (d.answer ≡ place_at w.list i)
      × (held_answers d.left ≡ take i (held_answers w) ++ drop (suc i) (held_answers w))

  taken : (d : Due) → due_of w time ≡ Some d → Taken d
  taken d =
      due-cases w time (λ o. o ≡ Some d → Taken d) (λ e n. cc) (λ e n. cc)
      (λ e f n. subst Taken (same-some n) (e, f, refl, others-are w.list i w.count (best-is w.list w.count (omega arith) e).inside (omega arith)))

  some_one : (d : Due) → due_of w time ≡ Some d → (i : ℕ) × TakenAt w time d i
  some_one d n =
      let t = taken d n in
      let b = best-is w.list w.count (omega arith) t.0 in
      (i, record { held = b.inside; answer = t.2; due = t.1; earliest = b.least; first = b.first; others = t.3 })

pub takes-earliest : TakesEarliest
takes-earliest = record { none = no_one; one = some_one }

-- an answer is kept where a place is free, else nothing
module _ (w : Waiting) (answers : List ℕ) (from : Point) (wait : Length) (what : What) (url bytes : List ℕ) where
  keeps : WaitingSized w → is_full w ≡ false → length answers ≡ 4736 → length url ≤ 128 → length bytes ≤ 1056 → KeptIn w answers from wait what url bytes
  keeps k f a u b =
      let n = kept_new w answers from wait what url bytes k f a u b in
      let o = kept-others w answers from wait what url bytes k f a u b in
      record {
        count = count_kept w answers from wait what url bytes k f;
        answer = place-new w answers from wait what url bytes k f;
        own-url = n.0;
        own = n.1;
        places = λ i h. (o i h).0;
        urls = λ i h. (o i h).1;
        others = λ i h. (o i h).2;
      }

  keeps-not : is_full w ≡ true → (kept w from wait what url bytes ≡ w) × (kept_bytes w answers url bytes ≡ answers)
  unfolding kept kept_bytes
  keeps-not h = (rw h, rw h)

pub keeps-bytes : KeepsBytes
keeps-bytes = record { free = keeps; full = keeps-not }
