-- Complete, document 01, "Transfer"; progress and the number of blocks held, document 02, Q-2.
use Rattle.std.specs.Prelude.{ℕ, ◌≡◌, List, Bool, true, false, ◌&&◌}
use Rattle.buffer.specs.Pick.{pick}
use Rattle.post.specs.Value.{is_readable}
use Rattle.protobuf.specs.Each.{Each}
use Rattle.run.specs.Run.{ran}
use Rattle.state.specs.Setup.{setup_of}
use Rattle.state.specs.declared.State.{State}
use Rattle.state.specs.declared.setup.Settings.{Settings}
use Rattle.tlv.specs.Record.{Tlv}
use Rattle.transfer.specs.Bitmap.{none_missing, complete, progress_of, CountsOnes}
use Rattle.transfer.specs.declared.Progress.{Progress}
use Rattle.calls.specs.Datagram.{world_in}
use Rattle.calls.specs.Made.{Made}

-- without an open image nothing is complete
unfoldable pub complete_in : State → Bool
complete_in s = s.images.«open» && complete s.images.image

-- 0, 0 and not complete where no image is open
unfoldable pub progress_in : State → Progress
progress_in s = pick s.images.«open» (progress_of s.images.image) (record { held = 0; blocks = 0; complete = false })

-- the number held is that of the ones after every setup, a refused one too, and every call, whether an image is open or not
pub record NumberHeld : Type 0 where
  pub setup : (hw vendor running url : List ℕ) (s : Settings) → CountsOnes (setup_of hw vendor running url s).state.images.image
  pub made : (s : State) → Made s → CountsOnes s.images.image

-- complete by comparison is complete by walking, as document 01 works it out each time: on made states, and between the records of a payload
-- that is run on one
pub record CompleteWalked : Type 0 where
  pub made : (s : State) → Made s → complete_in s ≡ (s.images.«open» && none_missing s.images.image)
  pub between : (s : State) (image : List ℕ) (ts : List Tlv) → Made s → Each (λ (t : Tlv). is_readable t.kind t.value ≡ true) ts
      → (ran s.device (world_in s image) ts).images.«open» ≡ true
      → complete (ran s.device (world_in s image) ts).images.image ≡ none_missing (ran s.device (world_in s image) ts).images.image
