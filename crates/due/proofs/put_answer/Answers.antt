-- `due::put_answer` meets its contract: by what the answer is.
use Rattle.due.proofs.Laws.{for-index, for-record, for-records, for-responses}
use Rattle.due.proofs.put_answer.Goals as goal

pub returns-in-Index : goal.returns-in-Index
returns-in-Index c = for-index _ _ _ _ _ c.in-Index.is c.get_index-got.ensures c.put_shown.ensures

pub returns-in-Record : goal.returns-in-Record
returns-in-Record c = for-record _ _ _ _ _ c.in-Record.is c.get_record-got.ensures c.put_shown-in-Record.ensures

pub returns-in-Records : goal.returns-in-Records
returns-in-Records c = for-records _ _ _ _ _ c.in-Records.is c.held_of-held.ensures c.joined_ids-ids.ensures c.get_records-got.ensures c.put_shown-in-Records.ensures

pub returns-in-Responses : goal.returns-in-Responses
returns-in-Responses c = for-responses _ _ _ _ _ c.in-Responses.is c.held_of-held.ensures c.put_answer.ensures
