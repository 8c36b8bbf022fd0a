-- A field of a table: its name and its value, and the line that says so.
use Rattle.std.specs.Prelude.{◌≡◌, ℕ, List, ◌∷◌, ◌++◌, true}
use Rattle.std.specs.List.{flat_map, AllByRecursion}
use Rattle.tbl_maker.specs.Names.{is_field_name}
use Rattle.tbl_maker.specs.Types.{type_word}
use Rattle.tbl_maker.specs.Values.{Value, IsValue, type_of, value_text, bytes_of}
use Rattle.tbl_maker.specs.declared.form.Form.{Form}

pub record Field : Type 0 where
  pub name : List ℕ
  pub value : Value

-- its name and its value are good ones
pub record IsField (f : Field) : Type 0 where
  pub name : is_field_name f.name ≡ true
  pub value : IsValue f.value

abbrev pub AreFields : List Field → Type 0
AreFields fields = AllByRecursion IsField fields

-- TYPE NAME VALUE
abbrev pub field_line : Field → List ℕ
field_line f = type_word (type_of f.value) ++ (32 ∷ (f.name ++ (32 ∷ value_text f.value)))

-- its type and its name
abbrev pub form_of : Field → Form
form_of f = record { kind = type_of f.value; name = f.name }

abbrev pub field_bytes : Field → List ℕ
field_bytes f = bytes_of f.value

-- fields stand in their image without gaps
abbrev pub image_of : List Field → List ℕ
image_of fields = flat_map field_bytes fields
