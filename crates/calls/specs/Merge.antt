-- Demand 3, document 01, "Transfer": one claim about whole lists of calls.
use Rattle.std.specs.Prelude.{ℕ, ◌≡◌, List, [], ◌∷◌, ◌++◌, Bool, true, false, not, ◌&&◌, ◌||◌, eqb, drop, None, Option, Some, Result, Ok, Err}
use Rattle.post.specs.Judge.{Judgement}
use Rattle.buffer.specs.Pick.{pick}
use Rattle.coap.specs.Frame.{frame_of}
use Rattle.coap.specs.declared.FrameError.{FrameError}
use Rattle.coap.specs.declared.Frame.{Frame}
use Rattle.csmp.specs.declared.Image.{Image}
use Rattle.protobuf.specs.Each.{Each}
use Rattle.registration.specs.Redirect.{followed, url_in}
use Rattle.request.specs.Request.{request_of}
use Rattle.request.specs.declared.Asks.{Asks}
use Rattle.request.specs.declared.Asks.TheVariants.{Error, Post, Index, Record, Records}
use Rattle.run.specs.Post.{judged_at}
use Rattle.run.specs.Run.{any_answered}
use Rattle.step.specs.Step.{with_flash}
use Rattle.state.specs.declared.Device.{Device}
use Rattle.state.specs.declared.Groups.{Groups}
use Rattle.state.specs.declared.State.{State}
use Rattle.state.specs.declared.Waiting.{Waiting}
use Rattle.tlv.specs.Record.{Tlv, records}
use Rattle.transfer.specs.Block.{Flash, Offer, offered}
use Rattle.transfer.specs.Merge.{Merge, Agreeing, Ended}
use Rattle.waiting.specs.Waiting.{is_full}
use Rattle.class.specs.Class.{class_of}
use Rattle.calls.specs.Datagram.{Call, refusal, world_in, with_world, datagram_of}
use Rattle.calls.specs.Made.{Made}
use Rattle.class.specs.declared.Class.{Class}
use Rattle.class.specs.declared.Class.TheVariants.{Request, Acknowledgement, Rejected, Ignored}

-- the state and the image buffer, from call to call
pub record Kept : Type 0 where
  pub state : State
  pub image : List ℕ

abbrev pub after : Kept → Call → Kept
after k c = record { state = (datagram_of k.state k.image c).state; image = (datagram_of k.state k.image c).image }

unfoldable pub after_all : List Call → Kept → Kept
after_all [] k = k
after_all (c ∷ cs) k = after_all cs (after k c)

-- the records that a call runs: its payload's where it is not refused and reaches step j, else none
abbrev pub runs_judged : List ℕ → Judgement → List Tlv
runs_judged p (Err code) = []
runs_judged p (Ok tt) = records p

-- document 02, Q-1: a POST that asks for a delay and finds no place that it needs ends before step j
unfoldable pub shut_out : Bool → Waiting → List ℕ → Bool
shut_out delayed w p = delayed && (is_full w && any_answered (records p))

abbrev pub runs_asked : Device → Groups → Waiting → Call → Bool → List ℕ → Asks → List Tlv
runs_asked d g w c delayed p (Error code) = []
runs_asked d g w c delayed p Post = pick (shut_out delayed w p) [] (runs_judged p (judged_at d g p c.time c.verdict))
runs_asked d g w c delayed p Index = []
runs_asked d g w c delayed p (Record id) = []
runs_asked d g w c delayed p Records = []

abbrev pub runs_classed : Device → Groups → Waiting → Call → Frame → Class → List Tlv
runs_classed d g w c f Request = runs_asked d g w c (request_of c.bytes f).delayed (drop f.payload c.bytes) (request_of c.bytes f).asks
runs_classed d g w c f Acknowledgement = []
runs_classed d g w c f Rejected = []
runs_classed d g w c f Ignored = []

abbrev pub runs_framed : Device → Groups → Waiting → Call → Result Frame FrameError → List Tlv
runs_framed d g w c (Ok f) = runs_classed d g w c f (class_of f.kind f.code)
runs_framed d g w c (Err e) = []

unfoldable pub runs : Kept → Call → List Tlv
runs k c =
    pick (eqb (refusal k.state k.image c) 0)
    (runs_framed k.state.device k.state.assigned.groups k.state.waiting c (frame_of c.bytes)) []

-- 65, 68, 69, 70 or a redirect not ignored
unfoldable pub steers : Tlv → Bool
steers t =
    eqb t.kind 65 || (eqb t.kind 68 || (eqb t.kind 69 || (eqb t.kind 70 || (eqb t.kind 6 && followed (url_in t.value)))))

unfoldable pub any_steers : List Tlv → Bool
any_steers [] = false
any_steers (t ∷ ts) = steers t || any_steers ts

abbrev pub frames_post : Result Frame FrameError → Bool
frames_post (Ok f) = eqb f.code 2
frames_post (Err e) = false

-- a call of a feed: any that the table refuses, and any POST, errors too, unless it reaches step j and holds one of those
unfoldable pub feeds : Kept → Call → Bool
feeds k c =
    not (eqb (datagram_of k.state k.image c).outcome 0)
    || (frames_post (frame_of c.bytes) && not (any_steers (runs k c)))

abbrev pub Feed : Kept → List Call → Type 0
Feed k cs = Each (λ (c : Call). feeds k c ≡ true) cs

-- the blocks that records offer to the open image: the hash is the open one, number and data are present
abbrev pub with_offer : Option Offer → List Offer → List Offer
with_offer None os = os
with_offer (Some o) os = o ∷ os

unfoldable pub offers : Image → List Tlv → List Offer
offers i [] = []
offers i (t ∷ ts) = pick (eqb t.kind 67) (with_offer (offered i t.value) (offers i ts)) (offers i ts)

-- the blocks that calls bring
unfoldable pub brought : Kept → List Call → List Offer
brought k [] = []
brought k (c ∷ cs) = offers k.state.images.image (runs k c) ++ brought k cs

-- the open image and the image buffer
abbrev pub flash_of : Kept → Flash
flash_of k = record { image = k.state.images.image; bytes = k.image }

-- all but the open image and the image buffer as it was
abbrev pub kept_with : Kept → Flash → Kept
kept_with k f = record { state = with_world k.state (with_flash (world_in k.state k.image) f); image = f.bytes }

-- what a merge leaves: what the first feed followed by the second leaves; held blocks are kept, new ones are in place with their bit, the
-- number held moves with the bits, all else is as it was, and the image is complete exactly when every block number was held or came
pub record Merged (k : Kept) (xs ys zs : List Call) : Type 0 where
  pub same : after_all zs k ≡ after_all ys (after_all xs k)
  pub blocks : Ended (flash_of k) (brought k zs) (flash_of (after_all zs k))
  pub rest : after_all zs k ≡ kept_with k (flash_of (after_all zs k))

-- from any state that setup and calls made, with a transfer open, any image buffer, any two feeds that agree on the blocks still missing,
-- every merge
abbrev pub Demand3 : Type 0
Demand3 =
    (k : Kept) (xs ys zs : List Call) → Made k.state → k.state.images.«open» ≡ true → Feed k xs → Feed k ys → Merge xs ys zs
    → Agreeing k.state.images.image (brought k xs) (brought k ys) → Merged k xs ys zs

-- no feed moves the waiting list: `rest` has it with the state, and each call of a feed, at its own turn, leaves what the answers hold in the buffer that is
-- lent for it
abbrev pub AnswersStay : Type 0
AnswersStay =
    (k : Kept) (xs : List Call) (c : Call) (ys : List Call) → k.state.images.«open» ≡ true → Feed k (xs ++ (c ∷ ys))
    → (datagram_of (after_all xs k).state (after_all xs k).image c).answers ≡ c.answers
