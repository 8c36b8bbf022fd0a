use Rattle.tbl_kinds.proofs.RequestLaws.{one_request}
use Rattle.session_records.proofs.laws.a_spelling_is_of_one_request.Goals as goal

pub returns : goal.returns
returns c = one_request
