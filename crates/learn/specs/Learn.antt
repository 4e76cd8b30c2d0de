-- What an acknowledgement says, document 01, "Registration and reports"; padding, document 02, Q-8.
use Rattle.std.specs.Prelude.{ℕ, List, [], ◌∷◌, Bool, false}
use Rattle.buffer.specs.Pick.{pick}
use Rattle.schedule.specs.declared.Point.{Point}
use Rattle.state.specs.declared.Assigned.{Assigned}
use Rattle.state.specs.declared.Device.{Device}
use Rattle.state.specs.declared.Registration.{Registration}
use Rattle.tlv.specs.Record.{Tlv, records, readable, padded_among}
use Rattle.note.specs.Note.{is_padded, nothing_learnt, marked, noted}
use Rattle.note.specs.declared.Learnt.{Learnt}

-- the records in their order
unfoldable pub learnt_of : Device → Point → Learnt → List Tlv → Learnt
learnt_of d time l [] = l
learnt_of d time l (t ∷ ts) = learnt_of d time (noted d time l t.kind t.value) ts

-- a record that can't be read ends the reading: the whole payload is unreadable. It may have any number of records
unfoldable pub learnt_from : Device → Registration → Assigned → Point → List ℕ → Learnt
learnt_from d r a time p =
    pick (readable p) (learnt_of d time (nothing_learnt r a) (records p)) (marked (learnt_of d time (nothing_learnt r a) (records p)) false)

-- document 02, Q-8: a varint that is read in the payload is not the shortest
unfoldable pub padded_in : List ℕ → Bool
padded_in p = padded_among is_padded (records p)
