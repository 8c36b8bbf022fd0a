use Rattle.std.proofs.Common.{◌≡◌, ◌++◌, ◌∷◌, [], take, drop, length, arith}
use Rattle.std.proofs.lemmas.List.{take-append-drop}
use Rattle.tbl_maker.specs.Fields.{IsField}
use Rattle.tbl_maker.specs.Shapes.{form_size}
use Rattle.tbl_maker.specs.Parts.{PutsField}
use Rattle.tbl_maker.proofs.Parting.{All-push}
use Rattle.tbl_maker.proofs.Puts.{fields_push, forms_next, image_next, left_next}
use Rattle.tbl_maker.proofs.describing.put_fields.Goals as goal

pub loop-form-preserved : goal.loop-form-preserved
loop-form-preserved c =
    let so_far = c.loop-form.invariant in
    let form = c.form-item.result in
    let i = c.loop-form.form-index in
    let rest = c.loop-form.rest.now in
    let piece = c.split_at.result.0.now in
    let after = c.split_at.result.1.now in
    let put : PutsField form piece c.loop-form.out.list c.put_field.new.out.list = c.in_ok-put_field.ensures in
    let whole : take c.size.result rest ++ drop c.size.result rest ≡ rest = take-append-drop c.size.result rest in
    let parted : rest ≡ piece ++ after = cc in
    let size : length piece ≡ form_size form = omega (arith, c.split_at.ensures.front_len, c.size.ensures) in
    record {
      fields = so_far.fields ++ put.field ∷ [];
      are_fields = All-push IsField so_far.fields put.field so_far.are_fields put.is_field;
      forms_are = forms_next so_far.fields put.field c.args.forms.now form i c.loop-form-test.true so_far.forms_are put.form_is c.form-item.is;
      image_is = image_next so_far.fields put.field c.args.image.now rest piece after so_far.image_is parted put.bytes_are;
      text_is = fields_push so_far.fields put.field c.args.out.now.list c.loop-form.out.list c.put_field.new.out.list so_far.text_is put.text_is;
      left = left_next c.args.forms.now form i rest piece after c.loop-form-test.true c.form-item.is parted size so_far.left;
    }
