use Rattle.std.proofs.Common.{◌≡◌, ◌≤◌, ◌+◌, ◌++◌, map, length, List}
use Rattle.std.specs.List.{flat_map}
use Rattle.tbl_maker.specs.Fields.{Field, AreFields, field_line, image_of}
use Rattle.tbl_maker.specs.Descriptions.{ended}
use Rattle.tbl_maker.proofs.making.fields_image.Given as goal

-- the fields so far, whose bytes the image has
abbrev pub invariant-loop-rest : goal.invariant-loop-rest
invariant-loop-rest l = record {
  fields : List Field;
  are_fields : AreFields fields;
  text_is : l.text ≡ flat_map ended (map field_line fields) ++ l.rest;
  image_is : l.image.list ≡ image_of fields;
  number_is : l.number ≡ length fields + 3;
  fits : length l.image.list ≤ l.room;
  few : length fields ≤ length l.image.list;
}

abbrev pub decreases-loop-rest : goal.decreases-loop-rest
decreases-loop-rest l = length l.rest
