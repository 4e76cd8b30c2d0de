-- The call that sends a delayed answer, document 02, Q-1.
use Rattle.std.specs.Prelude.{ℕ, List, [], ◌∷◌, true, not, eqb, None, Option, Some}
use Rattle.buffer.specs.Pick.{pick}
use Rattle.decimal.specs.Ids.{no_ids, held}
use Rattle.get.specs.Get.{index_got, record_got, records_got}
use Rattle.outgoing.specs.Sent.{answer_sent}
use Rattle.refusal.specs.Refusal.{own_refusal}
use Rattle.registration.specs.Round.{id_taken}
use Rattle.request.specs.Options.{parts, asked_of}
use Rattle.schedule.specs.declared.Point.{Point}
use Rattle.state.specs.declared.Delayed.{Delayed}
use Rattle.state.specs.declared.State.{State}
use Rattle.state.specs.declared.What.{What}
use Rattle.state.specs.declared.What.TheVariants.{Index, Record, Records, Responses}
use Rattle.waiting.specs.Waiting.{url_in, held_in, due_of}
use Rattle.waiting.specs.declared.Due.{Due}
use Rattle.calls.specs.Datagram.{with_waiting}
use Rattle.calls.specs.Own.{with_registration}

-- what the call does: its outcome, the URL that it returns (nothing where the datagram goes to /c), the datagram at the front of the output, the state after it
pub record Dispatch : Type 0 where
  pub outcome : ℕ
  pub url : List ℕ
  pub sent : List ℕ
  pub state : State

abbrev pub undispatched : ℕ → State → Dispatch
undispatched outcome s = record { outcome = outcome; url = []; sent = []; state = s }

-- GET answers are built now: what GET would show; for POST the responses that were kept
unfoldable pub records_of : State → List ℕ → Point → List ℕ → What → List ℕ
records_of s store time bytes Index = (index_got s store time).body
records_of s store time bytes (Record id) = (record_got s store time id).body
records_of s store time bytes Records = (records_got s store time (held (asked_of no_ids (parts bytes)))).body
records_of s store time bytes Responses = bytes

-- without a session, without a record, or over 1,280 bytes it writes nothing, outcome 0, and the answer taken out is gone; a datagram written takes the
-- message id
unfoldable pub dispatched : State → List ℕ → List ℕ → Dispatch
dispatched s url [] = undispatched 0 s
dispatched s url (b ∷ bs) = record { outcome = 0; url = url; sent = b ∷ bs; state = with_registration s (id_taken s.registration) }

-- the answer's datagram: to /c, or without a path for the URL that it has
unfoldable pub datagram_for : State → List ℕ → List ℕ → Point → Delayed → List ℕ
datagram_for s answers store time d =
    answer_sent s time (not (eqb d.url 0)) (records_of s store time (held_in d answers) d.what)

unfoldable pub dispatch_of : State → List ℕ → List ℕ → Point → Option Due → Dispatch
dispatch_of s answers store time None = undispatched 0 s
dispatch_of s answers store time (Some due) =
    dispatched (with_waiting s due.left) (url_in due.answer answers) (datagram_for s answers store time due.answer)

-- refusals 1 and 4, and no third (what is due is no matter of a refusal); with none due nothing changes
unfoldable pub answer_due : State → List ℕ → ℕ → List ℕ → Point → Dispatch
answer_due s answers out store time =
    pick (eqb (own_refusal out store true 0) 0) (dispatch_of s answers store time (due_of s.waiting time)) (undispatched (own_refusal out store true 0) s)
