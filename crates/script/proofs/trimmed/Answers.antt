-- `trimmed` is safe: only a line that is there is cut.
use mathlib.Core.Path.{sym}
use native.Mathlib.Omega.{arith}
use lib.Seq.{length-take-le}
use Rattle.script.proofs.trimmed.Goals as goal

pub slice_bounds-result-length : goal.slice_bounds-result-length
slice_bounds-result-length c = sym (length-take-le _ _ (omega arith))
