-- What one record of a posted payload says to steps e to i, document 01, "Requests, in this order"; padding, document 02, Q-8; text, Q-5.
use Rattle.std.specs.Prelude.{ℕ, List, [], ◌∷◌, Bool, true, false, ◌&&◌, ◌||◌, eqb, leb, ltb, None, Option, Some}
use Rattle.buffer.specs.Listed.{listed}
use Rattle.buffer.specs.Pick.{pick}
use Rattle.decode.specs.Read.{redirect_of, group_of, validity_of, signature_of}
use Rattle.decode_image.specs.Read.{transfer_of, block_of, load_of, hash_of}
use Rattle.message.specs.Read.{unpadded}
use Rattle.message.specs.declared.Reading.{Reading}
use Rattle.schedule.specs.declared.Point.{Point}
use Rattle.state.specs.Groups.{held_pairs}
use Rattle.state.specs.declared.Groups.{Groups}
use Rattle.state.specs.declared.Pair.{Pair}

-- e. what is read of a value of 6, 57, 65, 67 to 70, 76, 77; others are not read. A URL over its size can't be read, nor a value with a
-- string that is no text
unfoldable pub reading_at : ℕ → List ℕ → Reading
reading_at k v =
    pick (eqb k 6) (redirect_of v).reading
    (pick (eqb k 57) (group_of v).reading
    (pick (eqb k 65) (transfer_of v).reading
    (pick (eqb k 67) (block_of v).reading
    (pick (eqb k 68) (load_of v).reading
    (pick (eqb k 69) (hash_of v).reading
    (pick (eqb k 70) (hash_of v).reading
    (pick (eqb k 76) (validity_of v).reading
    (pick (eqb k 77) (signature_of v) (unpadded true)))))))))

abbrev pub is_readable : ℕ → List ℕ → Bool
is_readable k v = (reading_at k v).readable

-- document 02, Q-8
abbrev pub is_padded : ℕ → List ℕ → Bool
is_padded k v = (reading_at k v).padded

-- g. now outside the bounds of a record 76; an absent bound is open
unfoldable pub is_early : Option Point → Point → Bool
is_early (Some t) time = ltb time.0 t.0
is_early None time = false

unfoldable pub is_late : Option Point → Point → Bool
is_late (Some t) time = ltb t.0 time.0
is_late None time = false

unfoldable pub is_expired : ℕ → List ℕ → Point → Bool
is_expired k v time = eqb k 76 && (is_early (validity_of v).not_before time || is_late (validity_of v).not_after time)

-- h. a record 57 equal to a held group
unfoldable pub any_pair : List Pair → ℕ → ℕ → Bool
any_pair [] kind id = false
any_pair (p ∷ ps) kind id = (eqb p.kind kind && eqb p.id id) || any_pair ps kind id

unfoldable pub has_pair : Groups → ℕ → ℕ → Bool
has_pair g kind id = any_pair (held_pairs g) kind id

unfoldable pub match_of : Groups → Option ℕ → Option ℕ → Bool
match_of g (Some kind) (Some id) = has_pair g kind id
match_of g (Some kind) None = false
match_of g None id = false

unfoldable pub is_match : ℕ → List ℕ → Groups → Bool
is_match k v g = eqb k 57 && match_of g (group_of v).kind (group_of v).id

-- i. 7, 8, 13, 18, 55, 58, 71 to 75
unfoldable pub is_forbidden : ℕ → Bool
is_forbidden k = listed k (7 ∷ 8 ∷ 13 ∷ 18 ∷ 55 ∷ 58 ∷ []) || (leb 71 k && leb k 75)
