use Rattle.tbl_maker.proofs.Shapes.{shape_unique}
use Rattle.tbl_maker.proofs.laws.a_word_has_one_shape.Goals as goal

pub returns : goal.returns
returns c = shape_unique
