-- What a round of registration and a report leave.
use Rattle.std.specs.Prelude.{ℕ, ◌≡◌, List}
use Rattle.calls.specs.Own.{Sending, waited, backoff_in, rest_in}
use Rattle.reply.specs.Reply.{Sent}
use Rattle.reply.specs.declared.Answer.{Answer}
use Rattle.state.specs.declared.State.{State}
use Rattle.rounds.specs.declared.RoundAnswer.{RoundAnswer}

-- the datagram at the front of the output, or nothing beside a refusal
abbrev pub SentAs : Sending → List ℕ → Answer → List ℕ → Type 0
SentAs e out r left = Sent e.outcome e.sent e.state out r left

-- and the waits before and behind it
pub record Rounded (s : State) (random : ℕ) (e : Sending) (out : List ℕ) (r : RoundAnswer) (left : List ℕ) : Type 0 where
  pub answer : SentAs e out r.answer left
  pub backoff : r.backoff ≡ waited e.outcome (backoff_in s random)
  pub rest : r.rest ≡ waited e.outcome (rest_in s random)
