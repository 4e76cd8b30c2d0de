-- The reader of record 13, ReportSubscribe: what the walk by its table tells of a value, and its fields by the rows of the table.
use Rattle.std.specs.Prelude.{ℕ, List, [], ◌∷◌, Bool, ◌&&◌, leb, None, Option, Some}
use Rattle.decimal.specs.Decimal.{id_of}
use Rattle.decimal.specs.Ids.{no_ids, pushed}
use Rattle.decimal.specs.declared.Ids.{Ids}
use Rattle.message.specs.Read.{limited}
use Rattle.message.specs.declared.Reading.{Reading}
use Rattle.tables.specs.Table.{strings, Values, content_of, contents, value_of, read_by}
use Rattle.tables.specs.Found.{Cell, Found, found_in, number_in, reading_of}
use Rattle.csmp.specs.Tables.{report_subscribe}
use Rattle.csmp.specs.Values.{interval_of}
use Rattle.protobuf.specs.declared.Field.{Field}
use Rattle.decode_report.specs.declared.Report.{Report}

-- entries of a list that are no decimal ids are ignored
unfoldable pub with_id : Ids → Option ℕ → Ids
with_id ids (Some v) = pushed ids v
with_id ids None = ids

unfoldable pub with_entry : Ids → List ℕ → Ids
with_entry ids text = with_id ids (id_of text)

unfoldable pub with_entries : Ids → List (List ℕ) → Ids
with_entries ids [] = ids
with_entries ids (t ∷ ts) = with_entries (with_entry ids t) ts

-- the ids among the entries of tlvid, field 2: of one field, and of a value
unfoldable pub with_field : List ℕ → Ids → Field → Ids
with_field v ids f = with_entries ids (value_of strings 2 (content_of v f ∷ []))

unfoldable pub listed_in : List ℕ → Ids
listed_in v = with_entries no_ids (value_of strings 2 (contents v))

-- a list has at most 32 entries, ignored ones counted; document 02, Q-10: the heartbeat's list is checked, then not kept
unfoldable pub few : Cell → Bool
few c = leb c.count 32

-- the rows of the table are interval, tlvid, intervalHeartBeat, tlvidHeartBeat; told are the first two
abbrev pub report_by : Reading → Found report_subscribe → Values report_subscribe → Report
report_by r f t =
    record {
      reading = limited r (few f.1.0.0 && few f.1.1.1.0.0);
      interval = interval_of (number_in f.0.0);
      ids = with_entries no_ids t.1.0;
    }

unfoldable pub report_of : List ℕ → Report
report_of v = report_by (reading_of report_subscribe v) (found_in report_subscribe v) (read_by report_subscribe v)
