-- What is proved of padding, document 02, Q-8. What padded means is said of a varint (`PaddedIsLonger`); that numbers, records and fields are told as
-- before, by `NumbersStand`, `RecordsStand` and `FieldsStand`; what counts in a payload, by `padded_in` of a post and of an
-- acknowledgement, and in a value by `padded` of its table; where it is answered, by `posted_as` and `taken_padded`.
use Rattle.std.specs.Prelude.{ℕ, ◌≡◌, List, true, false, ◌&&◌, Err}
use Rattle.ack.specs.Take.{taken, acknowledged}
use Rattle.learn.specs.Learn.{padded_in as padded_ack}
use Rattle.outgoing.specs.declared.Report.{Report}
use Rattle.post.specs.Judge.{looked_at, padded_in, judged}
use Rattle.run.specs.Post.{Post, posted_as, judged_at, posted}
use Rattle.schedule.specs.declared.Point.{Point}
use Rattle.state.specs.Setup.{setup_of}
use Rattle.state.specs.declared.Device.{Device}
use Rattle.state.specs.declared.Groups.{Groups}
use Rattle.state.specs.declared.State.{State}
use Rattle.state.specs.declared.setup.Settings.{Settings}
use Rattle.step.specs.Step.{World}
use Rattle.calls.specs.Boot.{boot_of}
use Rattle.calls.specs.Datagram.{Call, datagram_of}
use Rattle.calls.specs.Own.{round_of, report_of}

-- a post by document 01, as it was; an acknowledgement as it was is `taken`. Neither asks what is padded: `looked_at` and `learnt_from` are in the words that
-- they had, over the types and values of the records
unfoldable pub posted_before : Device → Groups → World → List ℕ → Point → ℕ → Post
posted_before d g w p time verdict = posted_as d w p false (judged (looked_at g time p) verdict d.signed_posts)

-- the same but for `padded`
pub record SamePost (a b : Post) : Type 0 where
  pub code : a.code ≡ b.code
  pub world : a.world ≡ b.world
  pub body : a.body ≡ b.body

-- where padding is not refused, or nothing is padded, what is read, kept and answered is as before
pub record ReadingsStand : Type 0 where
  pub posts : (d : Device) (g : Groups) (w : World) (p : List ℕ) (time : Point) (verdict : ℕ)
      → (d.refuse_padding && padded_in p) ≡ false
      → SamePost (posted d g w p time verdict) (posted_before d g w p time verdict)
  pub acknowledgements : (s : State) (id : ℕ) (p : List ℕ) (time : Point) (verdict : ℕ)
      → (s.device.refuse_padding && padded_ack p) ≡ false
      → acknowledged s id p time verdict ≡ taken s id p time verdict

-- the setting
pub record PaddingRefused : Type 0 where
  -- off after setup; only the host's call moves it
  pub setup : (hw vendor running url : List ℕ) (s : Settings) → (setup_of hw vendor running url s).state.device.refuse_padding ≡ false
  pub called : (s : State) (image : List ℕ) (c : Call) → (datagram_of s image c).state.device ≡ s.device
  pub rounded : (s : State) (out : ℕ) (store : List ℕ) (time : Point) → (round_of s out store time).state.device ≡ s.device
  pub reported : (s : State) (out : ℕ) (store : List ℕ) (time : Point) (which : Report) → (report_of s out store time which).state.device ≡ s.device
  pub booted : (s : State) → (boot_of s).device ≡ s.device
  -- on: 4.00 at step e, whatever f to i would say; an acknowledgement changes nothing; `padded` is never answered
  pub posts : (d : Device) (g : Groups) (p : List ℕ) (time : Point) (verdict : ℕ) → d.refuse_padding ≡ true → padded_in p ≡ true
      → judged_at d g p time verdict ≡ Err 128
  pub acknowledgements : (s : State) (id : ℕ) (p : List ℕ) (time : Point) (verdict : ℕ) → s.device.refuse_padding ≡ true
      → padded_ack p ≡ true → acknowledged s id p time verdict ≡ s
  pub never : (s : State) (image : List ℕ) (c : Call) → s.device.refuse_padding ≡ true → (datagram_of s image c).padded ≡ false
