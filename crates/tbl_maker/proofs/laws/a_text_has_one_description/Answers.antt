use Rattle.tbl_maker.proofs.BadLines.{text_unique}
use Rattle.tbl_maker.proofs.laws.a_text_has_one_description.Goals as goal

pub returns : goal.returns
returns c = text_unique
