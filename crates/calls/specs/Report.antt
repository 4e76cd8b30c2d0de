-- The heartbeat report retired, document 02, Q-10: what becomes of a ReportSubscribe, and that a heartbeat report is refused. What a registration,
-- GET and reports show as record 13 is `report_shown`. An acknowledgement that is not accepted leaves it (`GroupsByType`).
use Rattle.std.specs.Prelude.{ℕ, ◌≤◌, ◌≡◌, List, [], ◌∷◌, map, true, false, ◌⊎◌, eqb, ltb, length, None}
use Rattle.ack.specs.Take.{is_awaited, acknowledged}
use Rattle.assign.specs.Assign.{with_report}
use Rattle.buffer.specs.Pick.{pick}
use Rattle.csmp.specs.Tables.{report_subscribe}
use Rattle.decimal.specs.Decimal.{decimal, ids_among}
use Rattle.decode_report.specs.Statements.{heartbeat_alone}
use Rattle.outgoing.specs.declared.Report.TheVariants.{Heartbeat}
use Rattle.own.specs.Own.{report_shown}
use Rattle.protobuf.specs.Each.{Each}
use Rattle.schedule.specs.declared.Point.{Point}
use Rattle.state.specs.declared.Assigned.{Assigned}
use Rattle.state.specs.declared.State.{State}
use Rattle.store.specs.Store.{acceptable}
use Rattle.tables.specs.Table.{read_by, write_by}
use Rattle.tlv.specs.Record.{Tlv, record_bytes, records}
use Rattle.calls.specs.Own.{unsent, report_of}

-- record 13 once a ReportSubscribe is held: its interval, the ids among the texts of its tlvid, and neither field of the heartbeat
unfoldable pub subscription_shown : List ℕ → List ℕ
subscription_shown v =
    record_bytes 13
    (write_by report_subscribe ((read_by report_subscribe v).0, (map decimal (ids_among (read_by report_subscribe v).1.0), (None, ([], tt)))))

-- behind the records of an acknowledgement: that of the last ReportSubscribe, and as it was where there is none
unfoldable pub shown_after : List ℕ → List Tlv → List ℕ
shown_after was [] = was
shown_after was (t ∷ ts) = shown_after (pick (eqb t.kind 13) (subscription_shown t.value) was) ts

-- a ReportSubscribe has at most 32 entries of tlvidHeartBeat
abbrev pub FewEntries : Tlv → Type 0
FewEntries t = t.kind ≡ 13 → length (read_by report_subscribe t.value).1.1.1.0 ≤ 32

-- two have the same interval and the same tlvid
abbrev pub SamePrimary : List ℕ → List ℕ → Type 0
SamePrimary v w = ((read_by report_subscribe v).0 ≡ (read_by report_subscribe w).0) × ((read_by report_subscribe v).1.0 ≡ (read_by report_subscribe w).1.0)

-- record 13 with nothing in it
abbrev pub empty_report : List ℕ
empty_report = 0x0D ∷ 0x00 ∷ []

pub record HeartbeatRetired : Type 0 where
  -- still checked when read: an acknowledgement with over 32 entries of tlvidHeartBeat in one of its ReportSubscribes changes nothing
  pub checked : (s : State) (id : ℕ) (p : List ℕ) (time : Point) (verdict : ℕ) → (acknowledged s id p time verdict ≡ s) ⊎ Each FewEntries (records p)
  -- then not kept: what is held goes by the interval and by tlvid
  pub kept : (a : Assigned) (v w : List ℕ) → SamePrimary v w → with_report a v ≡ with_report a w
  -- not shown: record 13 once an acknowledgement is accepted
  pub shown : (s : State) (id : ℕ) (p : List ℕ) (time : Point) (verdict : ℕ) → s.registration.accepted ≡ false
      → (acknowledged s id p time verdict).registration.accepted ≡ true
      → report_shown (acknowledged s id p time verdict).assigned ≡ shown_after (report_shown s.assigned) (records p)
  -- a ReportSubscribe with fields 3 and 4 alone is held, with nothing in it
  pub alone : (s : State) (id : ℕ) (time : Point) → is_awaited s.registration id ≡ true → s.device.signed_responses ≡ false
      → ((acknowledged s id (record_bytes 13 heartbeat_alone) time 0).registration.accepted ≡ true)
      × (report_shown (acknowledged s id (record_bytes 13 heartbeat_alone) time 0).assigned ≡ empty_report)
  -- a heartbeat report: refused by 1, 4 or 9, whatever the state holds
  pub refused : (s : State) (out : ℕ) (store : List ℕ) (time : Point)
      → report_of s out store time Heartbeat ≡ unsent (pick (ltb out 1280) 1 (pick (acceptable store) 9 4)) s
