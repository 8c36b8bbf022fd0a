use Rattle.tbl_kinds.proofs.RecordLaws.{apart}
use Rattle.session_records.proofs.laws.spellings_stand_apart.Goals as goal

pub returns : goal.returns
returns c = apart
