use Rattle.cds_layout.proofs.EntryLaws.{length-entry_tail, length-block_head}
use Rattle.cds_layout.proofs.laws.written_parts_fill_their_places.Goals as goal

pub returns-clause-entry : goal.returns-clause-entry
returns-clause-entry c = length-entry_tail

pub returns-clause-head : goal.returns-clause-head
returns-clause-head c = length-block_head
