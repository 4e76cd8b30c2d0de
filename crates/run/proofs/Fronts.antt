-- Laws of the blocks at a payload's front: each is put, and what is left leads to what all records lead to.
use Rattle.std.specs.Prelude.{None, Some}
use Prim.Native.Nat.{ℕ, ◌-◌, ◌≤◌, ◌<◌}
use mathlib.Core.Path.{◌≡◌, refl, sym, ap, ◌∙◌}
use mathlib.Core.List.{List, [], ◌++◌}
use mathlib.Core.Bool.{Bool, true, false, ◌&&◌}
use native.Mathlib.Omega.{arith}
use lib.Dec.{eqb}
use lib.ListN.{length, take, drop}
use Rattle.buffer.specs.Listed.{listed}
use Rattle.buffer.proofs.Tests.{both, neither}
use Rattle.decode_image.specs.Read.{block_of}
use Rattle.decode_image.specs.declared.Block.{Block}
use Rattle.state.specs.declared.Device.{Device}
use Rattle.state.specs.declared.Images.{Images}
use Rattle.state.specs.declared.Registration.{Registration}
use Rattle.step.specs.Step.{World, block_taken, is_request, needs_more, act, response}
use Rattle.tlv.specs.Record.{valued, record_at}
use Rattle.tlv.specs.declared.Record.{Record}
use Rattle.transfer.specs.Bitmap.{with_held}
use Rattle.transfer.specs.Block.{offered, take_of, take_block, Parts, Left}
use Rattle.run.specs.Run.{records_at, world_with, ran, responses}
use Rattle.run.specs.Front.{with_blocks, FrontBy}
use Rattle.run.proofs.Walk.{at-start, at-end, at-unreadable, at_next}

-- what is known of the value at a place is known of the value that is asked for there
pub block_same : (p : List ℕ) {a b start stop : ℕ} {block : Block} → a ≡ start → b ≡ stop → block ≡ block_of (take (b - a) (drop a p))
    → block ≡ block_of (take (stop - start) (drop start p))
block_same p e f h = rw (← e, ← f) h

-- what a record says that needs no more
module _ (d : Device) (w : World) (k : ℕ) (v : List ℕ) (h : needs_more k ≡ false) where
  abbrev Tests : Type 0
  Tests = (eqb k 6 ≡ false) × (eqb k 65 ≡ false) × (eqb k 68 ≡ false) × (eqb k 69 ≡ false) × (eqb k 70 ≡ false)

  tests : Tests
  unfolding needs_more is_request listed
  tests =
      let a = neither (eqb k 6) _ h in
      let b = neither (eqb k 65) _ a.1 in
      let c = neither (eqb k 68) _ b.1 in
      let e = neither (eqb k 69) _ c.1 in
      let f = neither (eqb k 70) _ e.1 in
      (a.0, b.0, c.0, e.0, f.0)

  pub plain-response : response d w k v ≡ []
  unfolding response
  plain-response = let t = tests in rw (t.1, t.2, t.3, t.4)

  pub plain-block : eqb k 67 ≡ true → act d w k v ≡ block_taken w v
  unfolding act
  plain-block e = let t = tests in rw (t.0, t.1, e)

  pub plain_other : eqb k 67 ≡ false → act d w k v ≡ w
  unfolding act
  plain_other e = let t = tests in rw (t.0, t.1, e, t.2, t.3, t.4)

-- a block that no image is open for
block_closed : (w : World) (v : List ℕ) → w.images.«open» ≡ false → block_taken w v ≡ w
unfolding block_taken
block_closed w v h = rw h

block-taken : (i : Images) (reg : Registration) (flash v : List ℕ) (map left : List ℕ) (n : ℕ) → i.«open» ≡ true
    → Left (take_of i.image flash v (block_of v)) (with_held i.image map n) left
    → block_taken (world_with i reg flash) v ≡ world_with (with_blocks i map n) reg left
unfolding block_taken take_block offered
block-taken i reg flash v map left n h l = rw (h, ← l.same-image, ← l.same_bytes)

-- from where the blocks before ran
module _ (i : Images) (flash₀ p : List ℕ) where
  pub front-start : {size each : ℕ} {map : List ℕ} {n : ℕ} → Parts i.image size each map n → FrontBy i flash₀ p (with_blocks i map n) 0 flash₀
  front-start q =
      rw (← q.mapped, ← q.counted)
      (record { world = λ d reg. rw (at-start p); body = λ d reg. rw (at-start p); fewer = rw (at-start p) (omega arith) })

  pub front-unreadable : {next : Images} {at : ℕ} {flash : List ℕ} → FrontBy i flash₀ p next at flash → at < length p → record_at p at ≡ None
      → FrontBy i flash₀ p next (length p) flash
  front-unreadable {next} {at} {flash} f h e =
      let a = at-unreadable p at h e in
      let z : length p ≤ length p = omega arith in
      let b : records_at p at ≡ records_at p (length p) = a ∙ sym (at-end p (length p) z) in
      let m = f.fewer in
      record {
        world = λ d reg. f.world d reg ∙ ap (ran d (world_with next reg flash)) b;
        body = λ d reg. f.body d reg ∙ ap (responses d (world_with next reg flash)) b;
        fewer = rw b at m;
      }

  module _ {next : Images} {at : ℕ} {flash : List ℕ} (f : FrontBy i flash₀ p next at flash) (r : Record) (e : record_at p at ≡ Some r) (h : needs_more r.kind ≡ false) where
    front_by : {after : Images} {left : List ℕ}
        → ((d : Device) (reg : Registration) → act d (world_with next reg flash) r.kind (valued p r).value ≡ world_with after reg left)
        → FrontBy i flash₀ p after r.end left
    unfolding ran responses
    front_by g =
        let k = at_next p at r e in
        let ts = records_at p r.end in
        let v = (valued p r).value in
        let m = f.fewer in
        record {
          world = λ d reg. f.world d reg ∙ rw k (ap (λ (w : World). ran d w ts) (g d reg));
          body =
              λ d reg.
              let w = world_with next reg flash in
              f.body d reg
              ∙ rw k
              (ap (λ (x : List ℕ). x ++ responses d (act d w r.kind v) ts) (plain-response d w r.kind v h)
              ∙ ap (λ (x : World). responses d x ts) (g d reg));
          fewer = omega (arith, rw k at m);
        }

    -- a record that is skipped, or a block where no image is open
    pub front-skipped : {o t : Bool} → next.«open» ≡ o → t ≡ (o && eqb r.kind 67) → t ≡ false → FrontBy i flash₀ p next r.end flash
    front-skipped a b g = front_by (λ d reg. go (world_with next reg flash) d (eqb r.kind 67) refl (rw a (sym b ∙ g)))
      where
        go : (w : World) (d : Device) (t : Bool) → eqb r.kind 67 ≡ t → (w.images.«open» && t) ≡ false → act d w r.kind (valued p r).value ≡ w
        go w d true q z = plain-block d w r.kind (valued p r).value h q ∙ block_closed w (valued p r).value (closed w.images.«open» z)
          where
            closed : (o : Bool) → (o && true) ≡ false → o ≡ false
            closed true z = z
            closed false z = refl
        go w d false q z = plain_other d w r.kind (valued p r).value h q

    pub front-block : {o t : Bool} {map left : List ℕ} {n : ℕ} → next.«open» ≡ o → t ≡ (o && eqb r.kind 67) → t ≡ true
        → Left (take_of next.image flash (valued p r).value (block_of (valued p r).value)) (with_held next.image map n) left
        → FrontBy i flash₀ p (with_blocks next map n) r.end left
    front-block {map = map} {left = left} {n = n} a b g l =
        let t = both next.«open» (eqb r.kind 67) (rw a (sym b ∙ g)) in
        front_by
        (λ d reg.
        plain-block d (world_with next reg flash) r.kind (valued p r).value h t.1 ∙ block-taken next reg flash (valued p r).value map left n t.0 l)
