-- Own datagrams, document 01, "Registration and reports" and refusal 10; delayed answers, document 02, Q-1.
use Rattle.std.specs.Prelude.{ℕ, List, [], ◌++◌, Bool, eqb, ltb, length}
use Rattle.buffer.specs.Pick.{pick}
use Rattle.coap.specs.Write.{registration_head, report_head, answer_head}
use Rattle.encode.specs.Write.{session_record, time_record}
use Rattle.decimal.specs.Ids.{held}
use Rattle.schedule.specs.declared.Point.{Point}
use Rattle.state.specs.Groups.{held_pairs}
use Rattle.state.specs.declared.Assigned.{Assigned}
use Rattle.state.specs.declared.State.{State}
use Rattle.own.specs.Own.{report_shown, groups_shown, own_records}
use Rattle.copy.specs.Shown.{copies, shown_all}
use Rattle.copy.specs.declared.Choice.TheVariants.{Only, Except}

-- own datagram would pass 1,280: nothing is sent
unfoldable pub sendable : List ℕ → List ℕ
sendable bs = pick (ltb 1280 (length bs)) [] bs

-- 7, once a session is held
unfoldable pub session_shown : Assigned → List ℕ
session_shown a = pick a.in_session (session_record a.session) []

-- payload: DeviceID (2), CurrentTime, session, GroupInfo per group, ReportSubscribe, other store records in order; unheld ones left out
unfoldable pub device_id : List ℕ → List ℕ
device_id store = copies store (Only 2)

unfoldable pub known_to : State → List ℕ → Point → List ℕ
known_to s store time =
    time_record time
    ++ (session_shown s.assigned
    ++ (groups_shown (held_pairs s.assigned.groups) ++ (report_shown s.assigned ++ copies store (Except 2))))

-- a round's CON POST to /r; nothing where there is no DeviceID in the store
unfoldable pub registration_sent : State → List ℕ → Point → List ℕ
registration_sent s store time =
    pick (eqb (length (device_id store)) 0) []
    (sendable (registration_head s.registration.message_id ++ (device_id store ++ known_to s store time)))

-- a report's NON POST to /c: session, CurrentTime, then the list's ids as GET takes them
unfoldable pub report_sent : State → List ℕ → Point → List ℕ
report_sent s store time =
    sendable
    (report_head s.registration.message_id
    ++ (session_shown s.assigned ++ (time_record time ++ shown_all store (own_records s time) (held s.assigned.ids))))

-- a delayed answer's NON POST to /c, or without a path for the URL that the request named: session, CurrentTime and the answer's records; nothing
-- without a session or a record, or over 1,280 bytes
unfoldable pub head_of : Bool → ℕ → List ℕ
head_of named id = pick named (answer_head id) (report_head id)

unfoldable pub answer_sent : State → Point → Bool → List ℕ → List ℕ
answer_sent s time named rs =
    pick s.assigned.in_session
    (pick (eqb (length rs) 0) []
    (sendable (head_of named s.registration.message_id ++ (session_shown s.assigned ++ (time_record time ++ rs)))))
    []
