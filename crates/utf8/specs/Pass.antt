-- What the one pass over the bytes keeps, for the private functions.
use Rattle.std.specs.Prelude.{◌-◌, List, [], ◌∷◌, eqb, replicate, None, Option, Some}
use Rattle.buffer.specs.Pick.{pick}
use Rattle.utf8.specs.Utf8.{Range, to, tail}
use Rattle.utf8.specs.declared.Rest.{Rest}

-- the bytes that are left: the next one's range, and tails behind it
unfoldable pub owed : Rest → List Range
owed r = pick (eqb r.count 0) [] (to r.low r.high ∷ replicate (r.count - 1) tail)

unfoldable pub owed_by : Option Rest → Option (List Range)
owed_by (Some r) = Some (owed r)
owed_by None = None
