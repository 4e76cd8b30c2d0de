-- What a request that asks for a delay keeps, and what is left when an answer is due, is sized.
use Rattle.std.specs.Prelude.{Ok, None, Option, Some}
use Prim.Native.Nat.{ℕ, ◌≤◌}
use mathlib.Core.Path.{◌≡◌, refl}
use mathlib.Core.List.{List, [], ◌∷◌}
use mathlib.Core.Bool.{Bool, true}
use native.Mathlib.Omega.{arith}
use lib.Dec.{eqb}
use lib.ListN.{length}
use Rattle.buffer.proofs.Tests.{pick-both}
use Rattle.coap.specs.declared.Frame.{Frame}
use Rattle.refusal.specs.Refusal.{own_refusal}
use Rattle.request.proofs.Judged.{asked-records, delay-url}
use Rattle.request.proofs.Texts.{ids_short}
use Rattle.request.specs.Delay.{text_in, delay_from}
use Rattle.request.specs.Request.{request_of}
use Rattle.request.specs.declared.Asks.TheVariants.{Records}
use Rattle.request.specs.declared.delay.Delay.{Delay}
use Rattle.request.specs.declared.delay.Delay.TheVariants.{Nothing as NoDelay, Within, Refused}
use Rattle.run.proofs.Bounds.{responses-most}
use Rattle.run.proofs.Laws.{run-few}
use Rattle.run.specs.Post.{posted_as, judged_at, posted}
use Rattle.schedule.specs.declared.Point.{Point}
use Rattle.state.specs.declared.Device.{Device}
use Rattle.state.specs.declared.Groups.{Groups}
use Rattle.state.specs.declared.State.{State}
use Rattle.state.specs.declared.What.{What}
use Rattle.tlv.specs.Record.{records}
use Rattle.waiting.proofs.Sizes.{kept-sized, due-sized}
use Rattle.waiting.specs.Sized.{WaitingSized}
use Rattle.waiting.specs.Waiting.{due_of, left_by}
use Rattle.waiting.specs.declared.Due.{Due}
use Rattle.calls.proofs.OwnSizes.{taken-sized}
use Rattle.calls.specs.Datagram.{Call, world_in, post_in, url_by, ids_by, ids_from, waiting_with, with_waiting, keeps}
use Rattle.calls.specs.Due.{Dispatch, dispatched, dispatch_of, answer_due}
use Rattle.calls.specs.Made.{Sized}

-- a URL that is named
pub url-short : (bytes : List ℕ) (at : ℕ) → length (url_by bytes (delay_from bytes at)) ≤ 128
unfolding url_by
url-short bytes at = go (delay_from bytes at) refl
  where
    go : (d : Delay) → delay_from bytes at ≡ d → length (url_by bytes d) ≤ 128
    go NoDelay e = omega arith
    go (Within most start stop) e = delay-url bytes at most start stop e
    go Refused e = omega arith

-- the text of ids
pub ids-fit : (bytes : List ℕ) (f : Frame) → (request_of bytes f).asks ≡ Records → length (ids_from bytes f.options) ≤ 1056
unfolding ids_from ids_by
ids-fit bytes f e =
    let r = asked-records bytes f e in
    let l = ids_short (text_in bytes r.0 r.1) r.4 in
    rw r.2 (omega arith)

-- the responses of a POST
few : (d : Device) (g : Groups) (p : List ℕ) (time : Point) (verdict : ℕ) → judged_at d g p time verdict ≡ Ok tt → length (records p) ≤ 24
unfolding judged_at
few d g p time verdict j = run-few g time p verdict d.signed_posts d.refuse_padding j

pub body-short : (s : State) (image : List ℕ) (c : Call) (p : List ℕ) → judged_at s.device s.assigned.groups p c.time c.verdict ≡ Ok tt
    → length (post_in s image c p).body ≤ 1056
unfolding posted posted_as
body-short s image c p j = rw j (responses-most s.device (world_in s image) (records p) (few s.device s.assigned.groups p c.time c.verdict j))

with-waiting : (s : State) → Sized s → {w : _} → WaitingSized w → Sized (with_waiting s w)
with-waiting s k z = record { device = k.device; images = k.images; assigned = k.assigned; registration = k.registration; waiting = z }

pub keeps-sized : (s : State) → Sized s → (image : List ℕ) (c : Call) (f : Frame) (what : What) (held : List ℕ) (padded : Bool) → length held ≤ 1056
    → Sized (keeps s image c f what held padded).state
unfolding keeps waiting_with
keeps-sized s k image c f what held padded h =
    with-waiting s k (kept-sized s.waiting _ _ what _ held k.waiting (url-short c.bytes f.options) h)

-- an answer that is due
abbrev Left : Dispatch → Type 0
Left d = Sized d.state

dispatched-sized : (s : State) → Sized s → (url bs : List ℕ) → Left (dispatched s url bs)
unfolding dispatched
dispatched-sized s k url [] = k
dispatched-sized s k url (b ∷ bs) =
    record {
      device = k.device;
      images = k.images;
      assigned = k.assigned;
      registration = taken-sized s.device s.registration k.registration;
      waiting = k.waiting;
    }

pub answer-sized : (s : State) (answers : List ℕ) (out : ℕ) (store : List ℕ) (time : Point) → Sized s → Left (answer_due s answers out store time)
unfolding answer_due dispatch_of left_by
answer-sized s answers out store time k =
    pick-both Left (eqb (own_refusal out store true 0) 0) _ _
    (λ _. go (due_of s.waiting time) (due-sized s.waiting time k.waiting)) (λ _. k)
  where
    go : (d : Option Due) → WaitingSized (left_by s.waiting d) → Left (dispatch_of s answers store time d)
    go None w = k
    go (Some d) w = dispatched-sized (with_waiting s d.left) (with-waiting s k w) _ _
