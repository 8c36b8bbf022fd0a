-- A description of a table file: the table's name, an offset, and fields; as its one text, and as the file.
use Rattle.std.specs.Prelude.{◌≡◌, ℕ, ◌+◌, ◌<◌, ◌≤◌, List, [], ◌∷◌, ◌++◌, map, length, codes, true}
use Rattle.std.specs.List.{flat_map}
use Rattle.std.specs.Fmt.{decimal}
use Rattle.tbl_kinds.specs.Limits.{table_limit}
use Rattle.tbl_kinds.specs.Names.{name_field}
use Rattle.tbl_kinds.specs.Headers.{Header, header_len, description_len}
use Rattle.tbl_kinds.specs.TableFiles.{TableFile, table_file, table_subtype}
use Rattle.tbl_maker.specs.Names.{is_full_name}
use Rattle.tbl_maker.specs.Fields.{Field, AreFields, field_line, form_of, image_of}
use Rattle.tbl_maker.specs.declared.form.Form.{Form}

pub record Description : Type 0 where
  pub name : List ℕ
  pub offset : ℕ
  pub fields : List Field

-- a full name, and one field or more that end within the largest table
pub record IsDescription (d : Description) : Type 0 where
  pub name : is_full_name d.name ≡ true
  pub some : 0 < length d.fields
  pub are_fields : AreFields d.fields
  pub fits : d.offset + length (image_of d.fields) ≤ table_limit

-- ---- its text

abbrev pub table_line : List ℕ → List ℕ
table_line name = codes "table " ++ name

abbrev pub offset_line : ℕ → List ℕ
offset_line offset = codes "offset " ++ decimal offset

abbrev pub lines_of : Description → List (List ℕ)
lines_of d = table_line d.name ∷ offset_line d.offset ∷ map field_line d.fields

abbrev pub ended : List ℕ → List ℕ
ended line = line ++ 10 ∷ []

-- the lines of the table and the offset
abbrev pub head_of : List ℕ → ℕ → List ℕ
head_of name offset = ended (table_line name) ++ ended (offset_line offset)

-- each line is ended by a newline
abbrev pub text_of : Description → List ℕ
text_of d = flat_map ended (lines_of d)

-- ---- its shape and its file

abbrev pub shape_of : Description → List Form
shape_of d = map form_of d.fields

abbrev pub contents_of : Description → TableFile
contents_of d = record { offset = d.offset; name = d.name; image = image_of d.fields }

-- the header of the files that the service writes, at the time 0
abbrev pub made_header : Header
made_header = record {
  subtype = table_subtype;
  length = header_len;
  spacecraft = 66;
  processor = 1;
  application = 0;
  seconds = 0;
  sub = 0;
  description = name_field description_len (codes "Table image");
}

unfoldable pub file_of : Description → List ℕ
file_of d = table_file made_header (contents_of d)
