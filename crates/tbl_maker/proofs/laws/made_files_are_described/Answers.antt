use Rattle.tbl_maker.proofs.Described.{Laws, made_no_fault, made_described, only_text}
use Rattle.tbl_maker.proofs.laws.made_files_are_described.Goals as goal

pub returns : goal.returns
returns c =
    let laws : Laws = record { accepted = c.written_files_are_read.ensures.accepted; same = c.written_files_are_read.ensures.same } in
    record { none = made_no_fault laws; again = made_described laws; only = only_text laws }
