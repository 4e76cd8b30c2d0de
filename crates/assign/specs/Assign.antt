-- What a session, a report and a GroupAssign assign, document 01, "Registration and reports", as document 02, Q-3 and Q-10, amends it.
use Rattle.std.specs.Prelude.{ℕ, ◌+◌, List, [], ◌∷◌, true, eqb, leb, ltb, set, None, Option, Some}
use Rattle.buffer.specs.Pick.{pick}
use Rattle.decode.specs.Read.{session_of}
use Rattle.decode_report.specs.Report.{report_of}
use Rattle.protobuf.specs.Given.{bytes_given}
use Rattle.state.specs.Groups.{held_pairs}
use Rattle.state.specs.declared.Assigned.{Assigned}
use Rattle.state.specs.declared.Groups.{Groups}
use Rattle.state.specs.declared.Pair.{Pair}
use Rattle.buffer.specs.Text.{text_of}
use Rattle.buffer.specs.declared.text.Text.{Text}

-- a session's id as the state holds it
abbrev pub session_id_of : List ℕ → Text 64
session_id_of s = text_of 64 s

-- 7: ignored is a session without id
abbrev pub in_session : Assigned → Option (List ℕ) → Assigned
in_session a None = a
in_session a (Some id) =
    record {
      groups = a.groups;
      in_session = true;
      session = session_id_of id;
      reporting = a.reporting;
      interval = a.interval;
      ids = a.ids;
    }

unfoldable pub with_session : Assigned → List ℕ → Assigned
with_session a v = in_session a (bytes_given v (session_of v).id)

-- 13: a report, its interval and its list
unfoldable pub with_report : Assigned → List ℕ → Assigned
with_report a v =
    record {
      groups = a.groups;
      in_session = a.in_session;
      session = a.session;
      reporting = true;
      interval = (report_of v).interval;
      ids = (report_of v).ids;
    }

-- 55: where the pair of a type is held, or else the end of those held
unfoldable pub place_in : List Pair → ℕ → ℕ
place_in [] kind = 0
place_in (p ∷ ps) kind = pick (eqb p.kind kind) 0 (place_in ps kind + 1)

abbrev pub place_of : Groups → ℕ → ℕ
place_of g kind = place_in (held_pairs g) kind

-- an assignment replaces the pair of its type, or is added at the end
unfoldable pub with_pair : Groups → ℕ → ℕ → Groups
with_pair g kind id =
    record {
      list = set g.list (place_of g kind) (record { kind = kind; id = id });
      count = pick (ltb (place_of g kind) g.count) g.count (place_of g kind + 1);
    }

-- none where 8 are held and none of that type: a ninth group would be needed
unfoldable pub regrouped : Groups → ℕ → ℕ → Option Groups
regrouped g kind id = pick (leb 8 (place_of g kind)) None (Some (with_pair g kind id))

abbrev pub holding : Assigned → Groups → Assigned
holding a g =
    record {
      groups = g;
      in_session = a.in_session;
      session = a.session;
      reporting = a.reporting;
      interval = a.interval;
      ids = a.ids;
    }
