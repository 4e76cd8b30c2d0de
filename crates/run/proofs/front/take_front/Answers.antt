-- `run::front::take_front` meets its contract: the open image has the parts that were handed on.
use mathlib.Core.Path.{refl}
use Rattle.run.proofs.front.take_front.Goals as goal

pub returns : goal.returns
returns c =
    let i = c.args.images in
    (refl, refl, c.take_blocks-reached.ensures i refl refl (record { sized = refl; blocked = refl; mapped = refl; counted = refl }))
