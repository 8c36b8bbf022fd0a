use Rattle.std.proofs.Common.{◌+◌, ◌<◌, length, ap, arith, refl}
use Rattle.tbl_maker.proofs.Images.{adds_no_line, adds_no_field, adds_no_room}
use Rattle.tbl_maker.proofs.making.add_field.Goals as goal

pub returns-in_default : goal.returns-in_default
returns-in_default c = record { some = tt; none = adds_no_line c.args.text.now (length c.args.image.now.list) c.args.room c.in_default.ensures.none; same = refl }

pub returns-in_default-field_bytes : goal.returns-in_default-field_bytes
returns-in_default-field_bytes c =
    let none = adds_no_field c.args.text.now c.in-Some.line.now c.in-Some.rest.now (length c.args.image.now.list) c.args.room c.in-Some.ensures.found c.in_default-field_bytes.ensures.none in
    record { some = tt; none = none; same = refl }

pub returns-then-left-len : goal.returns-then-left-len
returns-then-left-len c =
    let used = length c.args.image.now.list in
    let bytes = c.in-Some-field_bytes.bytes.items in
    let over : c.args.room < used + length bytes = omega (arith, ap length c.bytes.ensures, c.saturating_sub-left.ensures, c.len.ensures.value, c.if-left-len.true) in
    let none = adds_no_room c.args.text.now c.in-Some.line.now c.in-Some.rest.now bytes used c.args.room c.in-Some.ensures.found c.in-Some-field_bytes.ensures.some over in
    record { some = tt; none = none; same = refl }
