-- The values of fields: as text, and as bytes of an image.
use Rattle.std.specs.Prelude.{ℕ, ◌/◌, ◌%◌, ◌<◌, ◌≤◌, List, [], ◌∷◌, length, true, ℤ, FitsSigned}
use Rattle.std.specs.Int.{to_be_bytes, cast_unsigned, FitsUnsigned}
use Rattle.std.specs.Fmt.{signed_decimal, digit_glyph}
use Rattle.std.specs.List.{flat_map, AllByRecursion}
use Rattle.tbl_maker.specs.Types.{width_of}
use Rattle.tbl_maker.specs.declared.field_type.Sign.{Sign}
use Rattle.tbl_maker.specs.declared.field_type.Sign.TheVariants.{Unsigned, Signed}
use Rattle.tbl_maker.specs.declared.field_type.Width.{Width}
use Rattle.tbl_maker.specs.declared.field_type.FieldType.{FieldType}
use Rattle.tbl_maker.specs.declared.field_type.FieldType.TheVariants.{Number, Hex}

-- a number of a type, or bytes
pub data Value : Type 0 where
  number : Sign → Width → ℤ → Value
  hex : List ℕ → Value

abbrev pub IsInRange : Sign → Width → ℤ → Type 0
IsInRange Unsigned width z = FitsUnsigned (width_of width) z
IsInRange Signed width z = FitsSigned (width_of width) z

abbrev pub IsByte : ℕ → Type 0
IsByte b = b < 256

-- a hex value has 1 to 64 bytes
pub record IsHexValue (bytes : List ℕ) : Type 0 where
  pub some : 0 < length bytes
  pub few : length bytes ≤ 64
  pub are_bytes : AllByRecursion IsByte bytes

abbrev pub IsValue : Value → Type 0
IsValue (number sign width z) = IsInRange sign width z
IsValue (hex bytes) = IsHexValue bytes

abbrev pub type_of : Value → FieldType
type_of (number sign width z) = Number sign width
type_of (hex bytes) = Hex (length bytes)

-- a byte as two of 0 to 9 and A to F
abbrev pub hex_pair : ℕ → List ℕ
hex_pair b = digit_glyph true (b / 16) ∷ digit_glyph true (b % 16) ∷ []

-- decimal digits with no leading zero and a minus before those of a negative number; pairs of hexadecimal digits
abbrev pub value_text : Value → List ℕ
value_text (number sign width z) = signed_decimal z
value_text (hex bytes) = flat_map hex_pair bytes

-- big-endian, and a negative number in two's complement
abbrev pub bytes_of : Value → List ℕ
bytes_of (number sign width z) = to_be_bytes (width_of width) (cast_unsigned (width_of width) z)
bytes_of (hex bytes) = bytes
