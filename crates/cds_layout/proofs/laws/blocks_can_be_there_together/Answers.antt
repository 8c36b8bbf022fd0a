use Rattle.cds_layout.proofs.DirectoryLaws.{directory-together}
use Rattle.cds_layout.proofs.laws.blocks_can_be_there_together.Goals as goal

pub returns : goal.returns
returns c = directory-together
