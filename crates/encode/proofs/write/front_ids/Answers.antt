-- `encode::write::front_ids` meets its contract: a part where there are so many ids, else the whole.
use mathlib.Core.Path.{sym}
use native.Mathlib.Omega.{arith}
use lib.Seq.{take_all, length-take-le}
use Rattle.encode.proofs.write.front_ids.Goals as goal

pub slice_bounds-result-end : goal.slice_bounds-result-end
slice_bounds-result-end c = sym (length-take-le _ _ c.if-n-ids.true)

pub returns : goal.returns
returns c = let a = c.args in sym (take_all a.n a.ids.now (omega arith))
