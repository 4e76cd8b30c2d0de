-- What the answers that wait hold, document 02, Q-1, as long as the host lends their buffer as the last call left it.
use Rattle.std.specs.Prelude.{ℕ, ◌<◌, ◌≡◌, List, Bool, true, length}
use Rattle.ack.specs.Take.{acknowledged}
use Rattle.coap.specs.declared.Frame.{Frame}
use Rattle.decimal.specs.Ids.{no_ids}
use Rattle.outgoing.specs.declared.Report.{Report}
use Rattle.refusal.specs.Refusal.{own_refusal}
use Rattle.request.specs.Options.{parts, asked_of}
use Rattle.request.specs.Request.{request_of}
use Rattle.request.specs.declared.Asks.TheVariants.{Records}
use Rattle.run.specs.Run.{responses}
use Rattle.schedule.specs.declared.Point.{Point}
use Rattle.state.specs.Setup.{setup_of}
use Rattle.state.specs.Waiting.{place_at}
use Rattle.state.specs.declared.Device.{Device}
use Rattle.state.specs.declared.State.{State}
use Rattle.state.specs.declared.What.TheVariants.{Responses}
use Rattle.state.specs.declared.setup.Settings.{Settings}
use Rattle.step.specs.Step.{World}
use Rattle.tlv.specs.Record.{Tlv}
use Rattle.waiting.specs.Waiting.{held_in, due_of, left_by}
use Rattle.calls.specs.Boot.{boot_of}
use Rattle.calls.specs.Datagram.{Call, ids_from, datagram_of}
use Rattle.calls.specs.Due.{undispatched, answer_due}
use Rattle.calls.specs.Made.{Made}
use Rattle.calls.specs.Own.{round_of, report_of}
use Rattle.calls.specs.Padding.{refusing_padding}

-- the states that setup and calls make, each with the buffer that the calls left; a host may begin with any 4,736 bytes
pub data Lent : State → List ℕ → Type 0 where
  set : (hw vendor running url : List ℕ) (s : Settings) → (setup_of hw vendor running url s).outcome ≡ 0 → (answers : List ℕ) → length answers ≡ 4736
      → Lent (setup_of hw vendor running url s).state answers
  called : {s : State} {answers : List ℕ} → Lent s answers → (image : List ℕ) (c : Call) → c.answers ≡ answers
      → Lent (datagram_of s image c).state (datagram_of s image c).answers
  rounded : {s : State} {answers : List ℕ} → Lent s answers → (out : ℕ) (store : List ℕ) (time : Point) → Lent (round_of s out store time).state answers
  reported : {s : State} {answers : List ℕ} → Lent s answers → (out : ℕ) (store : List ℕ) (time : Point) (which : Report)
      → Lent (report_of s out store time which).state answers
  booted : {s : State} {answers : List ℕ} → Lent s answers → Lent (boot_of s) answers
  padding : {s : State} {answers : List ℕ} → Lent s answers → (on : Bool) → Lent (refusing_padding s on) answers
  due : {s : State} {answers : List ℕ} → Lent s answers → (out : ℕ) (store : List ℕ) (time : Point)
      → Lent (answer_due s answers out store time).state answers

-- responses are those that records were given when they ran
abbrev pub FromRun : List ℕ → Type 0
FromRun bytes = (d : Device) × (w : World) × (ts : List Tlv) × (bytes ≡ responses d w ts)

pub record AnswersHeld : Type 0 where
  pub made : (s : State) (answers : List ℕ) → Lent s answers → Made s
  -- those of every answer that waits, until it is taken out
  pub responses : (s : State) (answers : List ℕ) → Lent s answers → (i : ℕ) → i < s.waiting.count → (place_at s.waiting.list i).what ≡ Responses
      → FromRun (held_in (place_at s.waiting.list i) answers)
  -- the text that is kept of a query has the ids that it asked for
  pub ids : (bytes : List ℕ) (f : Frame) → (request_of bytes f).asks ≡ Records → asked_of no_ids (parts (ids_from bytes f.options)) ≡ (request_of bytes f).ids

-- what moves the list: a request that asks for a delay may add to it (`keeps`), and the call with the time takes out what is due, whether it can be sent or
-- not, unless it is refused. Acknowledgements, rounds, reports and boots leave it
pub record ListMoves : Type 0 where
  pub due : (s : State) (answers : List ℕ) (out : ℕ) (store : List ℕ) (time : Point) → own_refusal out store true 0 ≡ 0
      → (answer_due s answers out store time).state.waiting ≡ left_by s.waiting (due_of s.waiting time)
  pub refused : (s : State) (answers : List ℕ) (out : ℕ) (store : List ℕ) (time : Point) → (own_refusal out store true 0 ≡ 0 → ⊥)
      → answer_due s answers out store time ≡ undispatched (own_refusal out store true 0) s
  pub answered : (s : State) (id : ℕ) (p : List ℕ) (time : Point) (verdict : ℕ) → (acknowledged s id p time verdict).waiting ≡ s.waiting
  pub rounded : (s : State) (out : ℕ) (store : List ℕ) (time : Point) → (round_of s out store time).state.waiting ≡ s.waiting
  pub reported : (s : State) (out : ℕ) (store : List ℕ) (time : Point) (which : Report) → (report_of s out store time which).state.waiting ≡ s.waiting
  pub booted : (s : State) → (boot_of s).waiting ≡ s.waiting
