-- The calls that send a datagram of the agent's own, document 01, "House refusals" and "Registration and reports".
use Rattle.std.specs.Prelude.{ℕ, List, [], ◌∷◌, Bool, false, not, ◌&&◌, eqb, None, Option, Some}
use Rattle.buffer.specs.Pick.{pick}
use Rattle.outgoing.specs.Sent.{registration_sent, report_sent}
use Rattle.outgoing.specs.declared.Report.{Report}
use Rattle.outgoing.specs.declared.Report.TheVariants.{Primary, Heartbeat}
use Rattle.refusal.specs.Refusal.{own_refusal}
use Rattle.registration.specs.Backoff.{backoff_of, rest_of}
use Rattle.registration.specs.Round.{id_taken, round_taken}
use Rattle.schedule.specs.declared.Length.{Length}
use Rattle.schedule.specs.declared.Point.{Point}
use Rattle.state.specs.declared.Registration.{Registration}
use Rattle.state.specs.declared.State.{State}

-- what such a call does: its outcome, the datagram at the front of the output, the state after it
pub record Sending : Type 0 where
  pub outcome : ℕ
  pub sent : List ℕ
  pub state : State

-- a refused call changes nothing and takes no message id
abbrev pub unsent : ℕ → State → Sending
unsent outcome s = record { outcome = outcome; sent = []; state = s }

abbrev pub with_registration : State → Registration → State
with_registration s r = record { device = s.device; images = s.images; assigned = s.assigned; registration = r; waiting = s.waiting }

-- refusal 10, where there is no datagram to send
unfoldable pub sending : State → Registration → List ℕ → Sending
sending s r [] = unsent 10 s
sending s r (b ∷ bs) = record { outcome = 0; sent = b ∷ bs; state = with_registration s r }

abbrev pub sending_if : State → Registration → ℕ → List ℕ → Sending
sending_if s r refused bs = pick (eqb refused 0) (sending s r bs) (unsent refused s)

-- refusal 8: already accepted
unfoldable pub round_of : State → ℕ → List ℕ → Point → Sending
round_of s out store time =
    sending_if s (round_taken s.device s.registration) (own_refusal out store (not s.registration.accepted) 8) (registration_sent s store time)

-- a round gives the backoff and the rest of the interval; a refused one gives no wait
unfoldable pub waited : ℕ → Length → Length
waited outcome wait = pick (eqb outcome 0) wait (record { 0 = 0 })

unfoldable pub backoff_in : State → ℕ → Length
backoff_in s random = backoff_of s.registration.interval random

unfoldable pub rest_in : State → ℕ → Length
rest_in s random = rest_of s.registration.interval (backoff_in s random)

unfoldable pub is_positive : Option Length → Bool
is_positive (Some l) = not (eqb l.0 0)
is_positive None = false

-- refusal 9: no session, no acceptance, or its interval absent or 0; document 02, Q-10: any heartbeat report
unfoldable pub reports : State → Report → Bool
reports s Primary = s.assigned.in_session && (s.registration.accepted && is_positive s.assigned.interval)
reports s Heartbeat = false

unfoldable pub report_of : State → ℕ → List ℕ → Point → Report → Sending
report_of s out store time which =
    sending_if s (id_taken s.registration) (own_refusal out store (reports s which) 9) (report_sent s store time)
