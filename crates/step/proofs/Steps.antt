-- Laws of one record's run: what each arm of the code says of the definitions.
use Rattle.std.specs.Prelude.{None, Option}
use Prim.Native.Nat.{ℕ}
use mathlib.Core.Path.{◌≡◌, refl}
use mathlib.Core.List.{List, [], ◌∷◌}
use mathlib.Core.Bool.{true, false}
use mathlib.Core.Logic.{inl, inr}
use borrow.Author.Tests.{ne_eqb}
use types.Run.{OneOf}
use Rattle.buffer.specs.Listed.{listed}
use Rattle.decode_image.specs.Read.{transfer_of, block_of, load_of, hash_of}
use Rattle.decode_image.specs.declared.Block.{Block}
use Rattle.encode_image.specs.Write.{response_record}
use Rattle.csmp.specs.declared.Hash.{Hash}
use Rattle.csmp.specs.declared.Image.{Image}
use Rattle.loading.specs.Load.{load_answered, cancel_answered, backup_answered}
use Rattle.opening.specs.Open.{transfer_answered}
use Rattle.firmware.specs.Place.{echoed}
use Rattle.firmware.specs.declared.Answered.{Answered}
use Rattle.registration.specs.Redirect.{redirected}
use Rattle.state.specs.declared.Device.{Device}
use Rattle.transfer.specs.Block.{Left, offered, take_of, take_block}
use Rattle.step.specs.Step.{World, with_images, with_flash, world_of, block_taken, act, response, is_request, needs_more, Passed, Stepped}
use Rattle.answer.specs.Answer.{load_time, Responded}
use Rattle.answer.specs.declared.Ran.{Ran}
use Rattle.schedule.specs.declared.Point.{Point}

-- a block
pub block_closed : (w : World) (v : List ℕ) → w.images.«open» ≡ false → w ≡ block_taken w v
unfolding block_taken
block_closed w v h = rw h

pub block-open : (w : World) (v : List ℕ) {b : Block} {i : Image} {bs : List ℕ} → w.images.«open» ≡ true → b ≡ block_of v
    → Left (take_of w.images.image w.flash v b) i bs → with_flash w (record { image = i; bytes = bs }) ≡ block_taken w v
unfolding block_taken take_block offered
block-open w v h e l = rw (h, l.same-image, l.same_bytes, e)

-- the records that are answered, as a match tests them
pub request-alone : (k : ℕ) → OneOf (65 ∷ 68 ∷ 70 ∷ []) k → is_request k ≡ true
unfolding is_request listed
request-alone k (inl e) = rw e
request-alone k (inr (inl e)) = rw e
request-alone k (inr (inr e)) = rw e

pub request-69 : (k : ℕ) → k ≡ 69 → is_request k ≡ true
unfolding is_request listed
request-69 k e = rw e

pub request-other : (k : ℕ) → (OneOf (65 ∷ 68 ∷ 70 ∷ []) k → ⊥) → (k ≡ 69 → ⊥) → is_request k ≡ false
unfolding is_request listed
request-other k h g =
    rw (ne_eqb k 65 (λ q. h (inl q)), ne_eqb k 68 (λ q. h (inr (inl q))), ne_eqb k 69 g, ne_eqb k 70 (λ q. h (inr (inr q))))

-- and a redirect
pub more-redirect : (k : ℕ) → k ≡ 6 → needs_more k ≡ true
unfolding needs_more
more-redirect k e = rw e

pub more-request : (k : ℕ) → (k ≡ 6 → ⊥) → needs_more k ≡ is_request k
unfolding needs_more
more-request k h = rw (ne_eqb k 6 h)

-- an arm that answers, and one that does not
module _ (d : Device) (k : ℕ) (v : List ℕ) (out : List ℕ) (r next : Ran) (flash : List ℕ) where
  step-answered : {left : List ℕ} (a : Answered) (kind : ℕ) (h : Hash) (time : Option Point)
      → act d (world_of r flash) k v ≡ with_images (world_of r flash) a.images
      → response d (world_of r flash) k v ≡ response_record kind h a.answer time
      → Responded r a kind h time out next left → Stepped d (world_of r flash) k v out r.end next flash left
  step-answered a kind h time e f x = record { world = rw (e, x.images, x.registration); appended = rw f x.appended }

  step-silent : (now : List ℕ) {left : List ℕ} (m : Ran) → world_of m now ≡ act d (world_of r flash) k v → response d (world_of r flash) k v ≡ []
      → m.end ≡ r.end → Passed m out next left → Stepped d (world_of r flash) k v out r.end next now left
  step-silent now m e f g x = record { world = rw (x.images, x.registration) e; appended = rw (f, ← g) x.appended }

  pub step-6 : {left : List ℕ} (m : Ran) → k ≡ 6 → m ≡ record { images = r.images; registration = redirected d r.registration v; «end» = r.end }
      → Passed m out next left → Stepped d (world_of r flash) k v out r.end next flash left
  unfolding act response
  step-6 m e f x = step-silent flash m (rw (e, f)) (rw e) (rw f) x

  pub step-67 : (now : List ℕ) {left : List ℕ} (m : Ran) → k ≡ 67 → (world_of m now ≡ block_taken (world_of r flash) v) × (m.end ≡ r.end)
      → Passed m out next left → Stepped d (world_of r flash) k v out r.end next now left
  unfolding act response
  step-67 now m e f x = step-silent now m (rw e f.0) (rw e) f.1 x

  pub step-65 : {left : List ℕ} → k ≡ 65 → Responded r (transfer_answered d r.images v) 71 (echoed v (transfer_of v).hash) None out next left
      → Stepped d (world_of r flash) k v out r.end next flash left
  unfolding act response
  step-65 e x = step-answered _ _ _ _ (rw e) (rw e) x

  pub step-68 : {left : List ℕ} → k ≡ 68 → Responded r (load_answered r.images v) 72 (echoed v (load_of v).hash) (load_time (load_answered r.images v).answer (load_of v)) out next left
      → Stepped d (world_of r flash) k v out r.end next flash left
  unfolding act response
  step-68 e x = step-answered _ _ _ _ (rw e) (rw e) x

  pub step-69 : {left : List ℕ} → k ≡ 69 → Responded r (cancel_answered r.images v) 73 (echoed v (hash_of v).hash) None out next left
      → Stepped d (world_of r flash) k v out r.end next flash left
  unfolding act response
  step-69 e x = step-answered _ _ _ _ (rw e) (rw e) x

  pub step-70 : {left : List ℕ} → k ≡ 70 → Responded r (backup_answered r.images v) 74 (echoed v (hash_of v).hash) None out next left
      → Stepped d (world_of r flash) k v out r.end next flash left
  unfolding act response
  step-70 e x = step-answered _ _ _ _ (rw e) (rw e) x

  -- a record that is none of these
  pub step_other : {left : List ℕ} → (k ≡ 6 → ⊥) → (k ≡ 65 → ⊥) → (k ≡ 67 → ⊥) → (k ≡ 68 → ⊥) → (k ≡ 69 → ⊥) → (k ≡ 70 → ⊥)
      → Passed r out next left → Stepped d (world_of r flash) k v out r.end next flash left
  unfolding act response
  step_other a b e f g i x =
      step-silent flash r
      (rw (ne_eqb k 6 a, ne_eqb k 65 b, ne_eqb k 67 e, ne_eqb k 68 f, ne_eqb k 69 g, ne_eqb k 70 i))
      (rw (ne_eqb k 65 b, ne_eqb k 68 f, ne_eqb k 69 g, ne_eqb k 70 i)) refl x
