-- The records of an id, document 01, "Requests, in this order": taken from the host's store or, for 13, 18, 58, 75, from the agent's own.
use Rattle.std.specs.Prelude.{ℕ, ◌-◌, List, [], ◌∷◌, ◌++◌, Bool, not, ◌||◌, take, drop, eqb}
use Rattle.buffer.specs.Pick.{pick}
use Rattle.tlv.specs.Record.{records_from}
use Rattle.tlv.specs.declared.Record.{Record}
use Rattle.copy.specs.declared.Choice.{Choice}
use Rattle.copy.specs.declared.Choice.TheVariants.{Only, Except}

unfoldable pub is_own : ℕ → Bool
is_own id = eqb id 13 || (eqb id 18 || (eqb id 58 || eqb id 75))

-- TlvIndex (1), DeviceID (2) and 7 count as not there
unfoldable pub is_hidden : ℕ → Bool
is_hidden id = eqb id 1 || (eqb id 2 || eqb id 7)

unfoldable pub source_of : List ℕ → List ℕ → ℕ → List ℕ
source_of store own id = pick (is_hidden id) [] (pick (is_own id) own store)

-- the records of an id, or all others
unfoldable pub chosen : Choice → ℕ → Bool
chosen (Only id) k = eqb k id
chosen (Except id) k = not (eqb k id)

-- the chosen records as bytes, one behind the other; a record begins where the one before it ends
unfoldable pub copies_from : List ℕ → Choice → ℕ → List Record → List ℕ
copies_from s c at [] = []
copies_from s c at (r ∷ rs) = pick (chosen c r.kind) (take (r.end - at) (drop at s)) [] ++ copies_from s c r.end rs

unfoldable pub copies : List ℕ → Choice → List ℕ
copies s c = copies_from s c 0 (records_from s 0).items

-- what there is of an id
unfoldable pub shown_of : List ℕ → List ℕ → ℕ → List ℕ
shown_of store own id = copies (source_of store own id) (Only id)

-- for each id asked, in order, repeats included
unfoldable pub shown_all : List ℕ → List ℕ → List ℕ → List ℕ
shown_all store own [] = []
shown_all store own (id ∷ ids) = shown_of store own id ++ shown_all store own ids
