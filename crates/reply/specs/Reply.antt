-- Replies, document 01, "House refusals" and "Requests, in this order".
use Rattle.std.specs.Prelude.{ℕ, ◌≤◌, ◌≡◌, List, [], ◌∷◌, ◌++◌, true, false, length, eqb}
use Rattle.std.proofs.lemmas.List.Edits.{sets}
use Rattle.buffer.specs.Pick.{pick}
use Rattle.coap.specs.Write.{reset, reply_head}
use Rattle.state.specs.declared.State.{State}
use Rattle.reply.specs.declared.Answer.{Answer}

-- an ACK with its message id; one without payload is the head alone
unfoldable pub reply_of : ℕ → ℕ → List ℕ → List ℕ
reply_of code id [] = reply_head false code id
reply_of code id (b ∷ bs) = reply_head true code id ++ (b ∷ bs)

-- replies, errors too, go only to a CON (type 0); a NON is acted on in silence
unfoldable pub reply_to : ℕ → ℕ → ℕ → List ℕ → List ℕ
reply_to kind code id body = pick (eqb kind 0) (reply_of code id body) []

-- refusal 7: if the type is CON, a reset
unfoldable pub reset_to : ℕ → ℕ → List ℕ
reset_to kind id = pick (eqb kind 0) (reset id) []

-- what an answer and the output after it are: outcome 0 with the reply's length, 0 for silence; the reply stands at the output's front, and
-- its bytes beyond a reply are unchanged
pub record Sent (code : ℕ) (reply : List ℕ) (s : State) (out : List ℕ) (r : Answer) (left : List ℕ) : Type 0 where
  pub outcome : r.outcome ≡ code
  pub len : r.len ≡ length reply
  pub state : r.state ≡ s
  pub bytes : left ≡ sets out 0 reply
  pub small : r.len ≤ 1280
