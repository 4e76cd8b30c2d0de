-- Text, document 02, Q-5: the strings that were read and are kept are well-formed UTF-8, and so are those of every record of the agent's own in a reply or
-- an own datagram.
use Rattle.std.specs.Prelude.{ℕ, ◌≡◌, List, [], ◌++◌, Bool, true, eqb}
use Rattle.buffer.specs.Pick.{pick}
use Rattle.coap.specs.Write.{reset, registration_head, report_head}
use Rattle.copy.specs.Shown.{copies}
use Rattle.copy.specs.declared.Choice.{Choice}
use Rattle.csmp.specs.Tables.{tlv_index, session, report_subscribe, current_time, group, response, load_response, image_info}
use Rattle.outgoing.specs.Sent.{head_of}
use Rattle.outgoing.specs.declared.Report.{Report}
use Rattle.protobuf.specs.Each.{Each}
use Rattle.reply.specs.Reply.{reply_of}
use Rattle.schedule.specs.declared.Point.{Point}
use Rattle.state.specs.declared.State.{State}
use Rattle.store.specs.Store.{acceptable}
use Rattle.tables.specs.Statements.{Texts}
use Rattle.tables.specs.Table.{Table, end, Values, write_by}
use Rattle.tlv.specs.Record.{Tlv, records, record_bytes}
use Rattle.calls.specs.Answers.{Lent}
use Rattle.calls.specs.Datagram.{Call, datagram_of}
use Rattle.calls.specs.Due.{answer_due}
use Rattle.calls.specs.Made.{Made}
use Rattle.calls.specs.Own.{round_of, report_of}

-- What is kept of strings that were read is text by `MadeSized`: file name and version (`ImagesSized.name`, `.version`), the session's id (`AssignedSized.text`),
-- the URL of a redirect (`RegistrationSized.text`); of a report's lists only ids are kept, as numbers. The URL that a query names (document 02, Q-1) is no field: it is kept and given
-- back as bytes, and no record holds it. The texts of setup (hardware ids and URL) are the host's: no
-- call changes them (`PaddingRefused.called`, `.rounded`, `.reported`, `.booted`), and no record that is written holds one.

-- the table of each record that the agent writes, by its type; for other types the one without rows
abbrev pub table_of : ℕ → Table
table_of k =
    pick (eqb k 1) tlv_index
    (pick (eqb k 7) session
    (pick (eqb k 13) report_subscribe
    (pick (eqb k 18) current_time
    (pick (eqb k 58) group
    (pick (eqb k 72) load_response
    (pick (eqb k 75) image_info
    (pick (eqb k 71) response
    (pick (eqb k 73) response
    (pick (eqb k 74) response end)))))))))

-- a payload: records that are copied from an acceptable store, which is the host's, and records of the agent's own, each written by its table from values
-- whose strings are text. That such records read back is `WrittenBack`
pub data Carries (store : List ℕ) : List ℕ → Type 0 where
  nothing : Carries store []
  copied : acceptable store ≡ true → (c : Choice) → Carries store (copies store c)
  written : (kind : ℕ) (v : Values (table_of kind)) → Texts (table_of kind) v → Carries store (record_bytes kind (write_by (table_of kind) v))
  both : {a b : List ℕ} → Carries store a → Carries store b → Carries store (a ++ b)

-- silence, a reset, or a reply with such a payload
pub data Replies (store : List ℕ) : List ℕ → Type 0 where
  silent : Replies store []
  resets : (id : ℕ) → Replies store (reset id)
  answers : (code id : ℕ) {body : List ℕ} → Carries store body → Replies store (reply_of code id body)

-- nothing, or a datagram with such a payload
pub data Sends (store head : List ℕ) : List ℕ → Type 0 where
  unsent : Sends store head []
  sent : {payload : List ℕ} → Carries store payload → Sends store head (head ++ payload)

pub record TextOnly : Type 0 where
  -- an acceptable store holds none of the records that the agent writes
  pub stored : (store : List ℕ) → acceptable store ≡ true → Each (λ (t : Tlv). table_of t.kind ≡ end) (records store)
  -- so of these records a reply, a round and a report carry those with text in their strings and no other
  pub called : (s : State) (image : List ℕ) (c : Call) → Made s → Replies c.store (datagram_of s image c).reply
  pub rounded : (s : State) (out : ℕ) (store : List ℕ) (time : Point) → Made s
      → Sends store (registration_head s.registration.message_id) (round_of s out store time).sent
  pub reported : (s : State) (out : ℕ) (store : List ℕ) (time : Point) (which : Report) → Made s
      → Sends store (report_head s.registration.message_id) (report_of s out store time which).sent
  -- and a delayed answer (document 02, Q-1), to /c or to a URL of its own
  pub dispatched : (s : State) (answers : List ℕ) (out : ℕ) (store : List ℕ) (time : Point) → Lent s answers
      → (named : Bool) × Sends store (head_of named s.registration.message_id) (answer_due s answers out store time).sent
