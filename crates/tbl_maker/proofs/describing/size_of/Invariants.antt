use Rattle.std.proofs.Common.{◌≡◌, take}
use Rattle.std.specs.List.{sum_by}
use Rattle.tbl_maker.specs.Shapes.{form_size}
use Rattle.tbl_maker.proofs.describing.size_of.Given as goal

-- the bytes of the forms so far
abbrev pub invariant-loop-form : goal.invariant-loop-form
invariant-loop-form l = l.size ≡ sum_by form_size (take l.form-index l.forms)
