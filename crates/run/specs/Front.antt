-- What the blocks at a payload's front leave, document 01, "Requests, in this order", step j.
use Rattle.std.specs.Prelude.{ℕ, ◌≤◌, ◌≡◌, List, length}
use Rattle.state.specs.declared.Device.{Device}
use Rattle.state.specs.declared.Images.{Images}
use Rattle.state.specs.declared.Registration.{Registration}
use Rattle.tlv.specs.Record.{records}
use Rattle.transfer.specs.Bitmap.{with_held}
use Rattle.run.specs.Run.{records_at, world_with, ran, responses}

-- the images whose open one has another bitmap and another number of blocks held
abbrev pub with_blocks : Images → List ℕ → ℕ → Images
with_blocks i map n =
    record { running = i.running; «open» = i.«open»; image = with_held i.image map n; pending = i.pending; backup = i.backup }

-- where the blocks before a position ran, the records from there on lead to what all of them lead to, whatever else is kept
pub record FrontBy (i : Images) (flash p : List ℕ) (next : Images) (at : ℕ) (left : List ℕ) : Type 0 where
  pub world : (d : Device) (reg : Registration) → ran d (world_with i reg flash) (records p) ≡ ran d (world_with next reg left) (records_at p at)
  pub body : (d : Device) (reg : Registration)
      → responses d (world_with i reg flash) (records p) ≡ responses d (world_with next reg left) (records_at p at)
  pub fewer : length (records_at p at) ≤ length (records p)
