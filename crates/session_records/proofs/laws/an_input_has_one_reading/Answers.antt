use Rattle.tbl_kinds.proofs.InputLaws.{one_reading}
use Rattle.session_records.proofs.laws.an_input_has_one_reading.Goals as goal

pub returns : goal.returns
returns c = one_reading
