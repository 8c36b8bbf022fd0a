use Rattle.std.proofs.Common.{◌≡◌, ℕ, ◌+◌, List, [], ◌∷◌, ◌++◌, length, sym, ap, ◌∙◌, arith}
use Rattle.std.proofs.lemmas.List.{length-append}
use Rattle.tbl_maker.specs.Fields.{IsField, field_bytes}
use Rattle.tbl_maker.specs.Parts.{AddsField}
use Rattle.tbl_maker.proofs.Parting.{All-push}
use Rattle.tbl_maker.proofs.Images.{image_push, length-push, text_push, some_more}
use Rattle.tbl_maker.proofs.making.fields_image.Goals as goal

pub loop-rest-preserved : goal.loop-rest-preserved
loop-rest-preserved c =
    let so_far = c.loop-rest.invariant in
    let old = c.loop-rest.image.list in
    let new = c.add_field.new.image.list in
    let added : AddsField c.loop-rest.rest.now c.in-Some.after.now old new c.args.room = rw c.in-Some.is at c.in_ok-after.ensures.some in
    let bytes = field_bytes added.field in
    let len : length new ≡ length old + length bytes = ap length added.image_is ∙ length-append old bytes in
    record {
      fields = so_far.fields ++ added.field ∷ [];
      are_fields = All-push IsField so_far.fields added.field so_far.are_fields added.is_field;
      text_is = text_push so_far.fields added.field c.args.text.now c.loop-rest.rest.now c.in-Some.after.now so_far.text_is added.text_is;
      image_is = added.image_is ∙ ap (λ (l : List ℕ). l ++ bytes) so_far.image_is ∙ sym (image_push so_far.fields added.field);
      number_is = omega (arith, so_far.number_is, length-push so_far.fields added.field);
      fits = added.fits;
      few = omega (arith, so_far.few, len, length-push so_far.fields added.field, some_more added.field added.is_field);
    }
