use Rattle.transcript.proofs.Fields.{apart}
use Rattle.transcript.proofs.laws.an_end_is_no_entry.Goals as goal

pub returns : goal.returns
returns c = apart
