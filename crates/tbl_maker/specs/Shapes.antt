-- A shape: the types and the names of a table's fields, in one word.
use Rattle.std.specs.Prelude.{ℕ, Bool, true, ◌&&◌, nat_lt, nat_le, List, ◌∷◌, ◌++◌, map, length}
use Rattle.std.specs.List.{sum_by, list_all, join_with_byte}
use Rattle.tbl_kinds.specs.Limits.{table_limit}
use Rattle.tbl_maker.specs.Names.{is_field_name}
use Rattle.tbl_maker.specs.Types.{size_of, sized_word}
use Rattle.tbl_maker.specs.declared.field_type.FieldType.{FieldType}
use Rattle.tbl_maker.specs.declared.field_type.FieldType.TheVariants.{Number, Hex}
use Rattle.tbl_maker.specs.declared.form.Form.{Form}

-- bytes in hexadecimal are 1 to 64
abbrev pub is_type : FieldType → Bool
is_type (Number sign width) = true
is_type (Hex len) = nat_lt 0 len && nat_le len 64

abbrev pub is_form : Form → Bool
is_form form = is_type form.kind && is_field_name form.name

abbrev pub form_size : Form → ℕ
form_size form = size_of form.kind

-- how many bytes the fields have in all
abbrev pub shape_size : List Form → ℕ
shape_size shape = sum_by form_size shape

-- one field or more, of no more bytes than the largest table has
abbrev pub is_shape : List Form → Bool
is_shape shape = nat_lt 0 (length shape) && list_all is_form shape && nat_le (shape_size shape) table_limit

-- TYPE:NAME
abbrev pub form_word : Form → List ℕ
form_word form = sized_word form.kind ++ (58 ∷ form.name)

-- joined by commas
abbrev pub shape_word : List Form → List ℕ
shape_word shape = join_with_byte 44 (map form_word shape)
