use Rattle.cfe_headers.proofs.HeaderLaws as laws
use Rattle.cfe_headers.proofs.laws.written_headers_are_read.Goals as goal

pub returns : goal.returns
returns c = laws.reads
