-- What the parts of reading and writing find.
use Rattle.std.specs.Prelude.{◌≡◌, ℕ, ◌+◌, ◌<◌, ◌≤◌, ◌^◌, List, [], ◌∷◌, ◌++◌, map, length, true, ℤ, unsigned_abs, Option, Result, IfOk, IfSome, IfNone}
use Rattle.std.specs.Int.{to_be_bytes, cast_unsigned}
use Rattle.std.specs.Fmt.{decimal, signed_decimal}
use Rattle.std.specs.List.{flat_map}
use Rattle.tbl_maker.specs.Names.{is_full_name}
use Rattle.tbl_maker.specs.Types.{width_of, modulus_of, type_word}
use Rattle.tbl_maker.specs.Values.{Value, IsValue, IsHexValue, IsInRange, hex_pair, type_of, value_text, bytes_of}
use Rattle.tbl_maker.specs.Fields.{Field, IsField, AreFields, field_line, field_bytes, form_of, image_of}
use Rattle.tbl_maker.specs.Descriptions.{ended, table_line, offset_line}
use Rattle.tbl_maker.specs.declared.field_type.Sign.{Sign}
use Rattle.tbl_maker.specs.declared.field_type.Width.{Width}
use Rattle.tbl_maker.specs.declared.field_type.FieldType.{FieldType}
use Rattle.tbl_maker.specs.declared.form.Form.{Form}
use Rattle.tbl_maker.specs.declared.making.MakeFault.{MakeFault}
use Rattle.tbl_maker.specs.declared.making.MakeFault.TheVariants.{Line, Memory}

-- ---- numbers and values

-- a number that 63 bits and a sign hold
abbrev pub IsModerate : ℤ → Type 0
IsModerate z = unsigned_abs z < 2 ^ 63

abbrev pub IsNoNumber : List ℕ → Type 0
IsNoNumber text = (z : ℤ) → IsModerate z → text ≡ signed_decimal z → ⊥

abbrev pub IsNoCount : List ℕ → ℕ → Type 0
IsNoCount text limit = (n : ℕ) → n < limit → text ≡ decimal n → ⊥

-- the text of a number of the type, and its bytes
pub record ReadsNumber (sign : Sign) (width : Width) (text bytes : List ℕ) : Type 0 where
  pub z : ℤ
  pub in_range : IsInRange sign width z
  pub text_is : text ≡ signed_decimal z
  pub bytes_are : bytes ≡ to_be_bytes (width_of width) (cast_unsigned (width_of width) z)

abbrev pub IsNoNumberOf : Sign → Width → List ℕ → Type 0
IsNoNumberOf sign width text = (z : ℤ) → IsInRange sign width z → text ≡ signed_decimal z → ⊥

-- the bits of a number in two's complement, and those that bytes have
pub record AreBitsOf (width : Width) (number : ℤ) (result : ℕ) : Type 0 where
  pub bits : result ≡ cast_unsigned (width_of width) number
  pub fits : result < modulus_of width

pub record AreBitsIn (width : Width) (bytes : List ℕ) (result : ℕ) : Type 0 where
  pub spelled : to_be_bytes (width_of width) result ≡ bytes
  pub fits : result < modulus_of width

-- the number of the type that has these bytes
pub record IsNumberIn (sign : Sign) (width : Width) (spelling : List ℕ) (z : ℤ) : Type 0 where
  pub in_range : IsInRange sign width z
  pub bytes : to_be_bytes (width_of width) (cast_unsigned (width_of width) z) ≡ spelling

pub record ReadsHex (text bytes : List ℕ) : Type 0 where
  pub is_value : IsHexValue bytes
  pub text_is : text ≡ flat_map hex_pair bytes

abbrev pub IsNoHex : List ℕ → Type 0
IsNoHex text = (bytes : List ℕ) → IsHexValue bytes → text ≡ flat_map hex_pair bytes → ⊥

-- the word of its type and the text of a value, and its bytes
pub record ReadsValue (word text bytes : List ℕ) : Type 0 where
  pub value : Value
  pub is_value : IsValue value
  pub word_is : word ≡ type_word (type_of value)
  pub text_is : text ≡ value_text value
  pub bytes_are : bytes ≡ bytes_of value

abbrev pub IsNoValue : List ℕ → List ℕ → Type 0
IsNoValue word text = (v : Value) → IsValue v → word ≡ type_word (type_of v) → text ≡ value_text v → ⊥

-- the value of these bytes, as text after what was there
pub record PutsValue (kind : FieldType) (bytes old new : List ℕ) : Type 0 where
  pub value : Value
  pub is_value : IsValue value
  pub type_is : type_of value ≡ kind
  pub bytes_are : bytes_of value ≡ bytes
  pub text_is : new ≡ old ++ value_text value

-- ---- fields

pub record ReadsField (line bytes : List ℕ) : Type 0 where
  pub field : Field
  pub is_field : IsField field
  pub line_is : line ≡ field_line field
  pub bytes_are : bytes ≡ field_bytes field

abbrev pub IsNoField : List ℕ → Type 0
IsNoField line = (f : Field) → IsField f → line ≡ field_line f → ⊥

-- the next line is a field's, and its bytes end within the room
pub record AddsField (text rest old new : List ℕ) (room : ℕ) : Type 0 where
  pub field : Field
  pub is_field : IsField field
  pub text_is : text ≡ field_line field ++ 10 ∷ rest
  pub image_is : new ≡ old ++ field_bytes field
  pub fits : length new ≤ room

-- the next line is no field's whose bytes would end within the room
abbrev pub AddsNone : List ℕ → ℕ → ℕ → Type 0
AddsNone text used room = (f : Field) (rest : List ℕ) → IsField f → text ≡ field_line f ++ 10 ∷ rest → used + length (field_bytes f) ≤ room → ⊥

-- the next line's field is put to the image, and the rest of the text told; or nothing is done
pub record AddsOr {R : Type 0} {E : Type 0} (now : R → List ℕ) (text old new : List ℕ) (room : ℕ) (result : Result (Option R) E) : Type 0 where
  pub some : IfOk result (λ found. IfSome found (λ rest. AddsField text (now rest) old new room))
  pub none : IfOk result (λ found. IfNone found (AddsNone text (length old) room))
  pub same : IfOk result (λ found. IfNone found (new ≡ old))

-- the text is the lines of fields, and this is their image
pub record ReadsFields (text image : List ℕ) (room : ℕ) : Type 0 where
  pub fields : List Field
  pub some : 0 < length fields
  pub are_fields : AreFields fields
  pub text_is : text ≡ flat_map ended (map field_line fields)
  pub image_is : image ≡ image_of fields
  pub fits : length image ≤ room

-- so many lines of fields stand first, and no further one
pub record StopsAfter (text : List ℕ) (count room : ℕ) : Type 0 where
  pub fields : List Field
  pub count_is : length fields ≡ count
  pub are_fields : AreFields fields
  pub rest : List ℕ
  pub text_is : text ≡ flat_map ended (map field_line fields) ++ rest
  pub fits : length (image_of fields) ≤ room
  pub ends_at_none : rest ≡ [] → count ≡ 0
  pub no_further : AddsNone rest (length (image_of fields)) room

pub record PutsField (form : Form) (bytes old new : List ℕ) : Type 0 where
  pub field : Field
  pub is_field : IsField field
  pub form_is : form_of field ≡ form
  pub bytes_are : field_bytes field ≡ bytes
  pub text_is : new ≡ old ++ ended (field_line field)

pub record PutsFields (forms : List Form) (image old new : List ℕ) : Type 0 where
  pub fields : List Field
  pub are_fields : AreFields fields
  pub forms_are : map form_of fields ≡ forms
  pub image_is : image_of fields ≡ image
  pub text_is : new ≡ old ++ flat_map ended (map field_line fields)

-- ---- the first lines

pub record ReadsTable (text name rest : List ℕ) : Type 0 where
  pub is_name : is_full_name name ≡ true
  pub text_is : text ≡ table_line name ++ 10 ∷ rest

abbrev pub IsNoTable : List ℕ → Type 0
IsNoTable text = (name rest : List ℕ) → is_full_name name ≡ true → text ≡ table_line name ++ 10 ∷ rest → ⊥

pub record ReadsOffset (text rest : List ℕ) (offset : ℕ) : Type 0 where
  pub fits : offset < 16384
  pub text_is : text ≡ offset_line offset ++ 10 ∷ rest

abbrev pub IsNoOffset : List ℕ → Type 0
IsNoOffset text = (offset : ℕ) (rest : List ℕ) → offset < 16384 → text ≡ offset_line offset ++ 10 ∷ rest → ⊥

-- the line at which fields stop, where memory didn't run out
abbrev pub StopsAt : List ℕ → ℕ → MakeFault → Type 0
StopsAt text room (Line number) = (count : ℕ) × (number ≡ count + 3) × StopsAfter text count room
StopsAt text room Memory = Unit {0}
