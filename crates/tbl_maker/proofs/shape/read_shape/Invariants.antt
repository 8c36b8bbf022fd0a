use Rattle.std.proofs.Common.{◌≡◌, ◌+◌, ◌++◌, length, true}
use Rattle.std.specs.List.{list_all}
use Rattle.tbl_maker.specs.Shapes.{is_form, shape_size, form_word}
use Rattle.tbl_maker.proofs.Parting.{joined}
use Rattle.tbl_maker.proofs.shape.read_shape.Given as goal

-- the forms so far, each ended by a comma, and the rest
abbrev pub invariant-loop-piece : goal.invariant-loop-piece
invariant-loop-piece l = record {
  are_forms : list_all is_form l.forms.items ≡ true;
  word_is : l.word ≡ joined 44 form_word l.forms.items ++ l.rest;
  room_is : shape_size l.forms.items + l.room ≡ 16384;
}

abbrev pub decreases-loop-piece : goal.decreases-loop-piece
decreases-loop-piece l = length l.rest
