-- A payload has responses exactly where one of its records is answered.
use Rattle.std.specs.Prelude.{Option}
use Prim.Native.Nat.{ℕ, ◌≤◌}
use mathlib.Core.Path.{◌≡◌, refl, sym, ◌∙◌}
use mathlib.Core.List.{List, [], ◌∷◌}
use mathlib.Core.Bool.{true, false, true≢false}
use native.Mathlib.Omega.{arith}
use lib.Dec.{eqb}
use lib.ListN.{length, length-append}
use Rattle.buffer.specs.Listed.{listed}
use Rattle.buffer.proofs.Tests.{split, pick-both, neither}
use Rattle.csmp.specs.declared.Hash.{Hash}
use Rattle.encode_image.specs.Write.{response_record}
use Rattle.state.specs.declared.Device.{Device}
use Rattle.step.specs.Step.{World, act, response, is_request}
use Rattle.tlv.specs.Record.{Tlv, record_bytes}
use Rattle.varint.proofs.Laws.{varint-length, delimited-length}
use Rattle.run.specs.Run.{responses, any_answered}
use Rattle.schedule.specs.declared.Point.{Point}

-- a response is not empty
record-filled : (k : ℕ) (h : Hash) (answer : ℕ) (time : Option Point) → 1 ≤ length (response_record k h answer time)
unfolding response_record
record-filled k h answer time = filled k _
  where
    filled : (k : ℕ) (v : List ℕ) → 1 ≤ length (record_bytes k v)
    filled k v = let a = (varint-length k).0 in let b = delimited-length k v in omega arith

abbrev Some : List ℕ → Type 0
Some bs = 1 ≤ length bs

module _ (d : Device) where
  response-none : (w : World) (k : ℕ) (v : List ℕ) → is_request k ≡ false → response d w k v ≡ []
  unfolding is_request listed response
  response-none w k v h =
      let a = neither (eqb k 65) _ h in
      let b = neither (eqb k 68) _ a.1 in
      let e = neither (eqb k 69) _ b.1 in
      rw (a.0, b.0, e.0, (neither (eqb k 70) _ e.1).0)

  response-some : (w : World) (k : ℕ) (v : List ℕ) → is_request k ≡ true → 1 ≤ length (response d w k v)
  unfolding is_request listed response
  response-some w k v h =
      pick-both Some (eqb k 65) _ _ (λ _. record-filled 71 _ _ _)
      (λ a. pick-both Some (eqb k 68) _ _ (λ _. record-filled 72 _ _ _)
      (λ b. pick-both Some (eqb k 69) _ _ (λ _. record-filled 73 _ _ _)
      (λ e. pick-both Some (eqb k 70) _ _ (λ _. record-filled 74 _ _ _)
      (λ f. absurd (true≢false (sym h ∙ rw (a, b, e, f)))))))

  pub responses-none : (w : World) (ts : List Tlv) → any_answered ts ≡ false → responses d w ts ≡ []
  unfolding any_answered responses
  responses-none w [] h = refl
  responses-none w (t ∷ ts) h =
      let a = neither (is_request t.kind) (any_answered ts) h in
      rw (response-none w t.kind t.value a.0, responses-none (act d w t.kind t.value) ts a.1)

  pub responses-some : (w : World) (ts : List Tlv) → any_answered ts ≡ true → 1 ≤ length (responses d w ts)
  unfolding any_answered responses
  responses-some w [] h = absurd (true≢false (sym h))
  responses-some w (t ∷ ts) h =
      let x = response d w t.kind t.value in
      let y = responses d (act d w t.kind t.value) ts in
      let l = length-append x y in
      split (is_request t.kind)
      (λ e. let m = response-some w t.kind t.value e in omega arith)
      (λ e. let m = responses-some (act d w t.kind t.value) ts (rw e at h) in omega arith)
