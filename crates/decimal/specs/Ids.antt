-- Lists of ids held by value, document 01, "Sizes": a report list 32 ids; step d: 1 to 32 ids.
use Rattle.std.specs.Prelude.{ℕ, ◌+◌, List, set, take, replicate, leb}
use Rattle.buffer.specs.Pick.{pick}
use Rattle.decimal.specs.declared.Ids.{Ids}

abbrev pub no_ids : Ids
no_ids = record { list = replicate 32 0; count = 0 }

-- one more, where there is a place for it
unfoldable pub pushed : Ids → ℕ → Ids
pushed ids v = pick (leb 32 ids.count) ids (record { list = set ids.list ids.count v; count = ids.count + 1 })

-- the ids that such a list holds
abbrev pub held : Ids → List ℕ
held ids = take ids.count ids.list
