use Rattle.cds_layout.proofs.DirectoryLaws.{directory-front}
use Rattle.cds_layout.proofs.laws.directory_stands_in_the_first_bytes.Goals as goal

pub returns : goal.returns
returns c = directory-front
