-- `buffer::same` meets its contract: a fold over the pairs looks at every one.
use mathlib.Core.Path.{sym, ◌∙◌}
use mathlib.Core.Bool.{true, ◌&&◌}
use native.Mathlib.Omega.{arith}
use lib.Dec.{eqb}
use Rattle.std.proofs.Common.{rules, tests}
use Rattle.std.proofs.lemmas.Iterator.{YieldsList-from_slice, YieldsList-from_zip}
use Rattle.std.proofs.lemmas.Iterator.Consumers.{fold_from_yields_List}
use Rattle.buffer.proofs.Sames.{same_length, same_folded}
use Rattle.buffer.proofs.same.Goals as goal

pub returns-then-a-b : goal.returns-then-a-b
returns-then-a-b c = sym (same_length _ _ (λ e. omega arith))

pub returns : goal.returns
returns c = let g = c.args in
    fold_from_yields_List _ (λ s p. s && eqb p.0 p.1) true _ c.fold.ensures.ran
    (YieldsList-from_zip (YieldsList-from_slice g.a.now cc) (YieldsList-from_slice g.b.now cc))
    (λ s p t q k. search (rules, tests))
    ∙ same_folded g.a.now g.b.now true c.if-a-b.false
