use Rattle.tbl_kinds.proofs.RecordLaws.{nil_begins_none, short_begins_none, bad_begins_none}
use Rattle.session_records.proofs.laws.refused_bytes_begin_no_record.Goals as goal

pub returns : goal.returns
returns c = record { end = nil_begins_none; short = short_begins_none; bad = bad_begins_none }
