-- What the answers to records 65 and 68 to 70 share, document 01, "Transfer".
use Rattle.std.specs.Prelude.{ℕ, List, Bool, ◌&&◌, Result, Ok, Err}
use Rattle.std.specs.Result.{result_unwrap_or}
use Rattle.buffer.specs.Same.{same_bytes}
use Rattle.state.specs.declared.Images.{Images}
use Rattle.firmware.specs.declared.Answered.{Answered}
use Rattle.firmware.specs.declared.Fault.{Fault}
use Rattle.firmware.specs.declared.Fault.TheVariants.{IncompatibleHw, ImageIncomplete, UnknownHash, FileSizeTooBig, InvalidReq, InvalidBlockSize, PendingReboot, ImageRunning}

-- an answer that leaves these images
abbrev pub unchanged : Images → ℕ → Answered
unchanged i answer = record { images = i; answer = answer }

-- the draft's number of a fault
abbrev pub number : Fault → ℕ
number IncompatibleHw = 1
number ImageIncomplete = 2
number UnknownHash = 3
number FileSizeTooBig = 4
number InvalidReq = 6
number InvalidBlockSize = 7
number PendingReboot = 8
number ImageRunning = 9

-- what answers: the fault's number, or 0
unfoldable pub answer_of : {A : Type 0} → Result A Fault → ℕ
answer_of (Ok x) = 0
answer_of (Err f) = number f

-- the images as before where there is a fault, else the new ones
unfoldable pub settled : Images → Result Images Fault → Answered
settled i done = unchanged (result_unwrap_or done i) (answer_of done)

-- the open hash
unfoldable pub is_open : Images → List ℕ → Bool
is_open i hash = i.«open» && same_bytes i.image.hash hash
