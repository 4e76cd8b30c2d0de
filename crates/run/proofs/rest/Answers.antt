-- `run::rest` meets its contract: a response has at most 48 bytes, so those of 24 records have room.
use native.Mathlib.Omega.{arith}
use Rattle.std.proofs.Common.{rules}
use lib.ListN.{length}
use mathlib.Core.Path.{◌≡◌}
use Rattle.run.proofs.rest.Goals as goal

pub returns : goal.returns
returns c =
    let l : length c.args.out.now ≡ 1273 = search rules in
    λ h. c.run.ensures (omega arith)
