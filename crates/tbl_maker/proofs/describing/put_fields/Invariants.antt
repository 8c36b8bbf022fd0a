use Rattle.std.proofs.Common.{◌≡◌, ◌++◌, map, take, drop, length, List}
use Rattle.std.specs.List.{flat_map}
use Rattle.tbl_maker.specs.Fields.{Field, AreFields, field_line, form_of, image_of}
use Rattle.tbl_maker.specs.Descriptions.{ended}
use Rattle.tbl_maker.specs.Shapes.{shape_size}
use Rattle.tbl_maker.proofs.describing.put_fields.Given as goal

-- the fields so far, whose lines were appended; the rest has the bytes of the other forms
abbrev pub invariant-loop-form : goal.invariant-loop-form
invariant-loop-form l = record {
  fields : List Field;
  are_fields : AreFields fields;
  forms_are : map form_of fields ≡ take l.form-index l.forms;
  image_is : l.image ≡ image_of fields ++ l.rest;
  text_is : l.out.list ≡ l.fn.out.list ++ flat_map ended (map field_line fields);
  left : shape_size (drop l.form-index l.forms) ≡ length l.rest;
}
