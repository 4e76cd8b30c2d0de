-- `buffer::copy` meets its contract: what fits is stored from the front on.
use mathlib.Core.Path.{ap, ◌∙◌}
use mathlib.Core.List.{◌++◌}
use lib.ListN.{drop}
use Rattle.buffer.proofs.Puts.{sets-front}
use Rattle.buffer.proofs.copy.Goals as goal

pub returns : goal.returns
returns c = let a = c.args in
    ap (λ xs. xs ++ drop c.min-n.result a.dst.now) c.copy_from_slice.ensures.after ∙ sets-front a.dst.now a.src.now c.min-n.result c.min-n.ensures
