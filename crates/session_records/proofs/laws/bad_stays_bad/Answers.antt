use Rattle.tbl_kinds.proofs.InputLaws.{bad-append}
use Rattle.session_records.proofs.laws.bad_stays_bad.Goals as goal

pub returns : goal.returns
returns c = bad-append
