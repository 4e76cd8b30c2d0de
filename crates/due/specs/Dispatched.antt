-- What the call that sends a delayed answer leaves, document 02, Q-1.
use Rattle.std.specs.Prelude.{ℕ, ◌≤◌, ◌≡◌, List, length}
use Rattle.std.proofs.lemmas.List.Edits.{sets}
use Rattle.calls.specs.Due.{Dispatch}
use Rattle.state.specs.Setup.{url_of}
use Rattle.due.specs.declared.DueAnswer.{DueAnswer}

-- its answer, and the datagram at the front of the output; the bytes beyond are unchanged
pub record Dispatched (d : Dispatch) (out : List ℕ) (r : DueAnswer) (left : List ℕ) : Type 0 where
  pub outcome : r.outcome ≡ d.outcome
  pub len : r.len ≡ length d.sent
  pub url : r.url ≡ url_of d.url
  pub state : r.state ≡ d.state
  pub bytes : left ≡ sets out 0 d.sent
  pub small : r.len ≤ 1280
