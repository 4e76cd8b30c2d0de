-- One walk over a lent slice, for records, for fields and for the rows of a table: items follow each other to the slice's end, and one that can't be read ends the reading.
use Rattle.std.specs.Prelude.{ℕ, zero, suc, List, [], ◌∷◌, Bool, true, false, length, ltb}
use Rattle.buffer.specs.Pick.{pick}

-- what stands at a position: an item and where the next one begins, or nothing readable
pub data Step (A : Type 0) : Type 0 where
  item : A → ℕ → Step A
  unreadable : Step A

-- the items up to the end, or up to the first that can't be read; `whole` tells which
pub record Walked (A : Type 0) : Type 0 where
  pub items : List A
  pub whole : Bool

module _ {A : Type 0} where
  -- no items more, and whether that is the end
  abbrev pub ended : Bool → Walked A
  ended b = record { items = []; whole = b }

  -- an item before the others
  abbrev pub joined : A → Walked A → Walked A
  joined a w = record { items = a ∷ w.items; whole = w.whole }

  -- the item that a step found and the walk from there on, or the end of the reading
  abbrev pub onward : (ℕ → Walked A) → Step A → Walked A
  onward rest (item a next) = joined a (rest next)
  onward rest unreadable = ended false

  -- the walk from `at`, of at most so many items
  unfoldable pub walk_for : (List ℕ → ℕ → Step A) → ℕ → List ℕ → ℕ → Walked A
  walk_for step zero s at = ended false
  walk_for step (suc f) s at = pick (ltb at (length s)) (onward (walk_for step f s) (step s at)) (ended true)

  -- the walk from `at` to the end: an item takes at least a byte, so there are no more than the slice has bytes
  unfoldable pub walk : (List ℕ → ℕ → Step A) → List ℕ → ℕ → Walked A
  walk step s at = walk_for step (suc (length s)) s at
