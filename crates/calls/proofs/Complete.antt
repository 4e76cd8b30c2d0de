-- The number held is that of the ones, and complete by comparison is complete by walking.
use Prim.Native.Nat.{ℕ}
use mathlib.Core.Path.{◌≡◌, sym}
use mathlib.Core.List.{List}
use mathlib.Core.Bool.{true}
use Rattle.buffer.proofs.Tests.{pick-both, split}
use Rattle.state.specs.Setup.{valid_texts, valid_settings, first_state, blank_state, setup_of}
use Rattle.state.specs.declared.Device.{Device}
use Rattle.state.specs.declared.Images.{Images}
use Rattle.state.specs.declared.setup.Settings.{Settings}
use Rattle.state.specs.declared.setup.Setup.{Setup}
use Rattle.transfer.specs.Bitmap.{none_missing, complete, CountsOnes}
use Rattle.transfer.proofs.Counts.{ones_none, compares}
use Rattle.calls.specs.Complete.{complete_in, NumberHeld, CompleteWalked}
use Rattle.calls.specs.Made.{ImagesSized}
use Rattle.calls.proofs.Sizes.{open-counted, made-sized, world-sized, ran-sized}

-- a refused setup's state has no image either
setup-counts : (hw vendor running url : List ℕ) (s : Settings) → CountsOnes (setup_of hw vendor running url s).state.images.image
unfolding setup_of blank_state first_state
setup-counts hw vendor running url s =
    pick-both (λ (x : Setup). CountsOnes x.state.images.image) (valid_texts hw vendor running url) _ _
    (λ h. pick-both (λ (x : Setup). CountsOnes x.state.images.image) (valid_settings s) _ _ (λ g. sym ones_none) (λ g. sym ones_none))
    (λ h. sym ones_none)

pub number-held : NumberHeld
number-held = record { setup = setup-counts; made = λ s m. (made-sized s m).images.number }

walked : (d : Device) (i : Images) → ImagesSized d i → i.«open» ≡ true → complete i.image ≡ none_missing i.image
walked d i s o = compares i.image (open-counted d i s o)

pub complete-walked : CompleteWalked
unfolding complete_in
complete-walked =
    record {
      made = λ s m. split s.images.«open» (λ o. rw o (walked s.device s.images (made-sized s m).images o)) (λ o. rw o);
      between =
          λ s image ts m h. let z = made-sized s m in
          walked s.device _ (ran-sized s.device z.device _ ts h (world-sized s image z)).images;
    }
