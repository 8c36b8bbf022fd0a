use Rattle.tbl_maker.proofs.Described.{contents_unique}
use Rattle.tbl_maker.proofs.laws.a_shape_and_a_file_have_one_description.Goals as goal

pub returns : goal.returns
returns c = contents_unique
