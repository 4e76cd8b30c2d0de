-- The readers: what the walk by its table tells of a value, and its fields by the rows of the table. Sizes are judged where document 01 judges
-- them.
use Rattle.std.specs.Prelude.{ℕ, List}
use Rattle.message.specs.Read.{limited}
use Rattle.tables.specs.Found.{Found, found_in, number_in, flag_in, bytes_in, reading_of}
use Rattle.csmp.specs.Tables.{redirect, session, group, signature_validity, signature}
use Rattle.csmp.specs.Values.{moment_of, at_most}
use Rattle.message.specs.declared.Reading.{Reading}
use Rattle.decode.specs.declared.Redirect.{Redirect}
use Rattle.decode.specs.declared.Session.{Session}
use Rattle.decode.specs.declared.Group.{Group}
use Rattle.decode.specs.declared.Validity.{Validity}

-- 6: a URL has at most 128 bytes
abbrev pub redirect_by : Reading → Found redirect → Redirect
redirect_by r f = record { reading = limited r (at_most 128 (bytes_in f.0.0)); url = bytes_in f.0.0; immediate = flag_in f.1.0.0 }

unfoldable pub redirect_of : List ℕ → Redirect
redirect_of v = redirect_by (reading_of redirect v) (found_in redirect v)

-- 7: a session id has at most 64 bytes
abbrev pub session_by : Reading → Found session → Session
session_by r f = record { reading = limited r (at_most 64 (bytes_in f.0.0)); id = bytes_in f.0.0 }

unfoldable pub session_of : List ℕ → Session
session_of v = session_by (reading_of session v) (found_in session v)

-- 55, 57
abbrev pub group_by : Reading → Found group → Group
group_by r f = record { reading = r; kind = number_in f.0.0; id = number_in f.1.0.0 }

unfoldable pub group_of : List ℕ → Group
group_of v = group_by (reading_of group v) (found_in group v)

-- 76
abbrev pub validity_by : Reading → Found signature_validity → Validity
validity_by r f = record { reading = r; not_before = moment_of (number_in f.0.0); not_after = moment_of (number_in f.1.0.0) }

unfoldable pub validity_of : List ℕ → Validity
validity_of v = validity_by (reading_of signature_validity v) (found_in signature_validity v)

-- 77: its value is the host's to judge
unfoldable pub signature_of : List ℕ → Reading
signature_of v = reading_of signature v
