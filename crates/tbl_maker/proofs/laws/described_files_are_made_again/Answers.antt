use Rattle.tbl_maker.proofs.Described.{Laws, again_accepted, again_same}
use Rattle.tbl_maker.proofs.laws.described_files_are_made_again.Goals as goal

pub returns : goal.returns
returns c =
    let laws : Laws = record { accepted = c.written_files_are_read.ensures.accepted; same = c.written_files_are_read.ensures.same } in
    record { table_file = again_accepted laws; contents = again_same laws }
