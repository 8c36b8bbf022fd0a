use Rattle.cds_layout.proofs.EntryLaws.{block_in-written}
use Rattle.cds_layout.proofs.laws.written_entries_are_read.Goals as goal

pub returns : goal.returns
returns c = block_in-written
