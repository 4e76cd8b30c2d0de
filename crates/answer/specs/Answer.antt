-- The responses 71 to 74, document 01, "Transfer".
use Rattle.std.specs.Prelude.{ℕ, ◌≡◌, List, eqb, None, Option}
use Rattle.buffer.specs.Pick.{pick}
use Rattle.buffer.specs.Put.{Put}
use Rattle.decode_image.specs.declared.Load.{Load}
use Rattle.encode_image.specs.Write.{response_record}
use Rattle.csmp.specs.declared.Hash.{Hash}
use Rattle.firmware.specs.declared.Answered.{Answered}
use Rattle.answer.specs.declared.Ran.{Ran}
use Rattle.schedule.specs.declared.Point.{Point}

-- 72 adds the load time on 0
unfoldable pub load_time : ℕ → Load → Option Point
load_time answer l = pick (eqb answer 0) l.time None

-- what a request's answer leaves: its images, and its response appended
pub record Responded (r : Ran) (a : Answered) (kind : ℕ) (h : Hash) (time : Option Point) (out : List ℕ) (next : Ran) (left : List ℕ) : Type 0 where
  pub images : next.images ≡ a.images
  pub registration : next.registration ≡ r.registration
  pub appended : Put out r.end (response_record kind h a.answer time) left next.end
