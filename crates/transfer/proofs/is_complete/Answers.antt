-- `transfer::is_complete` meets its contract: it is what progress tells of it.
use Rattle.std.proofs.Common.{ap}
use Rattle.transfer.specs.Bitmap.{progress_of}
use Rattle.transfer.specs.declared.Progress.{Progress}
use Rattle.transfer.proofs.is_complete.Goals as goal

pub returns : goal.returns
unfolding progress_of
returns c = ap (λ (p : Progress). p.complete) c.progress_of-told.ensures
