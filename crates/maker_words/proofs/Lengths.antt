-- The text of a description is no longer than an input may be.
use Rattle.std.proofs.Common.{◌≡◌, ℕ, ◌+◌, ◌*◌, ◌<◌, ◌≤◌, ◌^◌, List, [], ◌∷◌, ◌++◌, length, map, true, arith, ℤ, pos, negsuc}
use Rattle.std.specs.Prelude.{◌&&◌, nat_lt, nat_le}
use Rattle.std.specs.List.{flat_map, list_all}
use Rattle.std.specs.Fmt.{decimal, signed_decimal}
use Rattle.std.proofs.lemmas.Fmt.{length-decimal-le, length_signed_le}
use Rattle.std.proofs.lemmas.Int.{ints}
use Rattle.std.proofs.lemmas.List.{length-append}
use Rattle.std.proofs.lemmas.Bool.{and_parts, leb-true}
use Rattle.std.specs.Int.Signed.{mag}
use Rattle.tbl_maker.specs.Names.{is_field_byte, is_field_name}
use Rattle.tbl_maker.specs.Types.{type_word}
use Rattle.tbl_maker.specs.Values.{Value, number, hex, IsValue, IsInRange, hex_pair, type_of, value_text, bytes_of}
use Rattle.tbl_maker.specs.Fields.{Field, IsField, AreFields, field_line, field_bytes, image_of}
use Rattle.tbl_maker.specs.Descriptions.{Description, IsDescription, ended, table_line, offset_line, text_of}
use Rattle.tbl_maker.specs.declared.field_type.Sign.{Sign}
use Rattle.tbl_maker.specs.declared.field_type.Sign.TheVariants.{Unsigned, Signed}
use Rattle.tbl_maker.specs.declared.field_type.Width.{Width}
use Rattle.tbl_maker.specs.declared.field_type.Width.TheVariants.{One, Two, Four}
use Rattle.tbl_maker.specs.declared.field_type.FieldType.{FieldType}
use Rattle.tbl_maker.specs.declared.field_type.FieldType.TheVariants.{Number, Hex}
use Rattle.tbl_maker.proofs.FullNames.{full_within}
use Rattle.tbl_maker.proofs.Values.{in_range_moderate, mag_small, some_bytes}

small_number : (sign : Sign) (width : Width) (z : ℤ) → IsInRange sign width z → mag z + 1 < 10 ^ 10
small_number Unsigned One (pos n) h = omega (arith, ints)
small_number Unsigned Two (pos n) h = omega (arith, ints)
small_number Unsigned Four (pos n) h = omega (arith, ints)
small_number Unsigned width (negsuc n) h = absurd (omega (arith, ints))
small_number Signed One (pos n) h = omega (arith, ints)
small_number Signed Two (pos n) h = omega (arith, ints)
small_number Signed Four (pos n) h = omega (arith, ints)
small_number Signed One (negsuc n) h = omega (arith, ints)
small_number Signed Two (negsuc n) h = omega (arith, ints)
small_number Signed Four (negsuc n) h = omega (arith, ints)

digits_length : (bytes : List ℕ) → length (flat_map hex_pair bytes) ≡ 2 * length bytes
digits_length [] = omega arith
digits_length (b ∷ bytes) = omega (arith, digits_length bytes)

value_short : (v : Value) → IsValue v → length (value_text v) ≤ 2 * length (bytes_of v) + 9
value_short (number sign width z) h =
    let few : length (signed_decimal z) ≤ 11 = length_signed_le 10 z (small_number sign width z h) (mag_small z (in_range_moderate sign width z h)) in
    omega (arith, few, some_bytes (number sign width z) h)
value_short (hex bytes) h = omega (arith, digits_length bytes)

word_short : (kind : FieldType) → length (type_word kind) ≤ 3
word_short (Number sign One) = omega arith
word_short (Number sign Two) = omega arith
word_short (Number sign Four) = omega arith
word_short (Hex len) = omega arith

name_short : (name : List ℕ) → is_field_name name ≡ true → length name ≤ 16
name_short name e =
    let sized = and_parts (nat_lt 0 (length name) && nat_le (length name) 16) (list_all is_field_byte name) e in
    leb-true (length name) 16 (and_parts (nat_lt 0 (length name)) (nat_le (length name) 16) sized.0).1

line_length : (word name text : List ℕ) → length (ended (word ++ (32 ∷ (name ++ (32 ∷ text))))) ≡ length word + length name + length text + 3
line_length word name text =
    omega (arith, length-append (word ++ (32 ∷ (name ++ (32 ∷ text)))) (10 ∷ []), length-append word (32 ∷ (name ++ (32 ∷ text))), length-append name (32 ∷ text))

line_short : (f : Field) → IsField f → length (ended (field_line f)) ≤ 33 * length (field_bytes f)
line_short f h =
    omega (arith, line_length (type_word (type_of f.value)) f.name (value_text f.value), word_short (type_of f.value), name_short f.name h.name, value_short f.value h.value, some_bytes f.value h.value)

lines_short : (fields : List Field) → AreFields fields → length (flat_map ended (map field_line fields)) ≤ 33 * length (image_of fields)
lines_short [] good = omega arith
lines_short (f ∷ fields) good =
    omega (arith, length-append (ended (field_line f)) (flat_map ended (map field_line fields)), length-append (field_bytes f) (image_of fields), line_short f good.0, lines_short fields good.1)

head_length : (a b : List ℕ) (rest : List ℕ) → length (ended a ++ (ended b ++ rest)) ≡ length a + length b + length rest + 2
head_length a b rest = omega (arith, length-append (ended a) (ended b ++ rest), length-append (ended b) rest, length-append a (10 ∷ []), length-append b (10 ∷ []))

table_length : (name : List ℕ) → length (table_line name) ≡ length name + 6
table_length name = omega arith

offset_length : (offset : ℕ) → offset < 16385 → length (offset_line offset) ≤ 12
offset_length offset small = let digits : length (decimal offset) ≤ 5 = length-decimal-le 5 offset (omega arith) (omega (arith, small)) (omega (arith, small)) in omega (arith, digits)

pub text_short : (d : Description) → IsDescription d → length (text_of d) ≤ 1048576
text_short d h =
    omega (
      arith,
      head_length (table_line d.name) (offset_line d.offset) (flat_map ended (map field_line d.fields)),
      table_length d.name,
      full_within d.name h.name,
      offset_length d.offset (omega (arith, h.fits)),
      lines_short d.fields h.are_fields,
      h.fits,
    )
