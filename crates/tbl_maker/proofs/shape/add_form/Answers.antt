use Rattle.std.proofs.Common.{◌<◌, arith}
use Rattle.tbl_maker.specs.Shapes.{form_size}
use Rattle.tbl_maker.proofs.Shapes.{adds_no_room}
use Rattle.tbl_maker.proofs.shape.add_form.Goals as goal

pub returns-in_default-checked_sub : goal.returns-in_default-checked_sub
returns-in_default-checked_sub c =
    let over : c.args.room < form_size c.in-Some.form = omega (arith, c.size.ensures, c.in_default-checked_sub.ensures) in
    let none = adds_no_room c.args.word.now c.in-Some.form c.args.room c.in-Some.ensures.some c.in-Some.ensures.right over in
    record { some = tt; none = none }
