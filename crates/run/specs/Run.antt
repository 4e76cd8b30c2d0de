-- Step j, document 01, "Requests, in this order": the records of a payload run in their order.
use Rattle.std.specs.Prelude.{ℕ, ◌+◌, ◌≤◌, ◌≡◌, List, [], ◌∷◌, ◌++◌, map, Bool, false, ◌||◌, length}
use Rattle.std.proofs.lemmas.List.Edits.{sets}
use Rattle.state.specs.declared.Device.{Device}
use Rattle.state.specs.declared.Images.{Images}
use Rattle.state.specs.declared.Registration.{Registration}
use Rattle.tlv.specs.Record.{Tlv, valued, records_from}
use Rattle.step.specs.Step.{World, world_of, act, response, is_request}
use Rattle.answer.specs.declared.Ran.{Ran}

-- the records of a payload from a position on
unfoldable pub records_at : List ℕ → ℕ → List Tlv
records_at p at = map (valued p) (records_from p at).items

abbrev pub world_with : Images → Registration → List ℕ → World
world_with i reg flash = record { images = i; registration = reg; flash = flash }

-- the records run in payload order
unfoldable pub ran : Device → World → List Tlv → World
ran d w [] = w
ran d w (t ∷ ts) = ran d (act d w t.kind t.value) ts

unfoldable pub responses : Device → World → List Tlv → List ℕ
responses d w [] = []
responses d w (t ∷ ts) = response d w t.kind t.value ++ responses d (act d w t.kind t.value) ts

-- what all of them leave: the responses lie whole in the output
pub record RanBy (d : Device) (w : World) (ts : List Tlv) (out : List ℕ) (at : ℕ) (next : Ran) (flash left : List ℕ) : Type 0 where
  pub world : world_of next flash ≡ ran d w ts
  pub bytes : left ≡ sets out at (responses d w ts)
  pub position : next.end ≡ at + length (responses d w ts)
  pub inside : next.end ≤ length out

-- document 02, Q-1: whether a record is answered
unfoldable pub any_answered : List Tlv → Bool
any_answered [] = false
any_answered (t ∷ ts) = is_request t.kind || any_answered ts
