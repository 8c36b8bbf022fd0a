use Rattle.cfe_headers.proofs.HeaderLaws as laws
use Rattle.cfe_headers.proofs.laws.what_is_read_is_a_header.Goals as goal

pub returns : goal.returns
returns c = laws.begins
