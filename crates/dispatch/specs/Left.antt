-- What a datagram call leaves.
use Rattle.std.specs.Prelude.{ℕ, ◌≡◌, List}
use Rattle.calls.specs.Datagram.{Effect}
use Rattle.reply.specs.Reply.{Sent}
use Rattle.reply.specs.declared.Answer.{Answer}
use Rattle.reply.specs.declared.DatagramAnswer.{DatagramAnswer}

-- an answer without what it says of padding
abbrev pub answer_in : DatagramAnswer → Answer
answer_in r = record { outcome = r.outcome; len = r.len; state = r.state }

-- its answer with the output, whether the payload is padded, and the two buffers
pub record Left (e : Effect) (out : List ℕ) (r : DatagramAnswer) (lent flash left : List ℕ) : Type 0 where
  pub answer : Sent e.outcome e.reply e.state out (answer_in r) left
  pub padded : r.padded ≡ e.padded
  pub answers : lent ≡ e.answers
  pub image : flash ≡ e.image
