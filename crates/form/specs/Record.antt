-- The written form of a list of records, said of its bytes by themselves.
use Rattle.std.specs.Prelude.{ℕ, List, Bool, false, not, ◌&&◌}
use Rattle.tlv.specs.Record.{records, readable, padded_among}

-- nothing is read of a value
abbrev pub unread : ℕ → List ℕ → Bool
unread kind value = false

-- whether bytes are in that form, by themselves: they can be read to their end, and no type or length is padded
unfoldable pub in_form : List ℕ → Bool
in_form s = readable s && not (padded_among unread (records s))
