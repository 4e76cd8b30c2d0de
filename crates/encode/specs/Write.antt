-- The records that the agent writes: values by the tables, document 01, "Records and fields" and "Requests".
use Rattle.std.specs.Prelude.{ℕ, List, [], map, take, None, Option, Some}
use Rattle.decimal.specs.Decimal.{decimal}
use Rattle.decimal.specs.Ids.{held}
use Rattle.decimal.specs.declared.Ids.{Ids}
use Rattle.protobuf.specs.Write.{bytes_field, each}
use Rattle.schedule.specs.declared.Point.{Point}
use Rattle.tables.specs.Table.{write_by}
use Rattle.tlv.specs.Record.{record_bytes}
use Rattle.csmp.specs.Tables
use Rattle.csmp.specs.Values.{interval_number}
use Rattle.csmp.specs.declared.Index.{Index}
use Rattle.schedule.specs.declared.Length.{Length}
use Rattle.buffer.specs.declared.text.Text.{Text}

-- ids as decimal texts
unfoldable pub texts : ℕ → List ℕ → List ℕ
texts n ids = each (λ (id : ℕ). bytes_field n (decimal id)) ids

-- 1: the ids, as decimals
unfoldable pub index_record : Index → List ℕ
index_record i = record_bytes 1 (write_by Tables.tlv_index (map decimal (take i.count i.list), tt))

-- 7
unfoldable pub session_record : Text 64 → List ℕ
session_record s = record_bytes 7 (write_by Tables.session (Some (take s.len s.bytes), tt))

-- 13: interval and tlvid; document 02, Q-10: the heartbeat is not shown
unfoldable pub report_record : Option Length → Ids → List ℕ
report_record i ids = record_bytes 13 (write_by Tables.report_subscribe (interval_number i, (map decimal (held ids), (None, ([], tt)))))

-- 18: posix only
unfoldable pub time_record : Point → List ℕ
time_record p = record_bytes 18 (write_by Tables.current_time (Some p.0, (None, (None, tt))))

-- 58
unfoldable pub group_record : ℕ → ℕ → List ℕ
group_record kind id = record_bytes 58 (write_by Tables.group (Some kind, (Some id, tt)))
