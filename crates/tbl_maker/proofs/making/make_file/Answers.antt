use Rattle.tbl_maker.proofs.BadLines.{makes}
use Rattle.tbl_maker.proofs.making.make_file.Goals as goal

pub returns : goal.returns
returns c =
    let made = c.described_file.ensures in
    record { made = made.made; descriptions = λ d h e. makes c.described_file.result c.args.text.now made.made made.line d h e; line = made.line }
