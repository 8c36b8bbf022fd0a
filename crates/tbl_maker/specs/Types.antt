-- The types that a field of a table can have.
use Rattle.std.specs.Prelude.{◌≡◌, ℕ, ◌^◌, List, ◌∷◌, ◌++◌, codes, Option, IfSome, IfNone}
use Rattle.std.specs.Int.{w8, w16, w32, byte_len}
use Rattle.std.specs.Int as int
use Rattle.std.specs.Fmt.{decimal}
use Rattle.tbl_maker.specs.declared.field_type.Sign.{Sign}
use Rattle.tbl_maker.specs.declared.field_type.Sign.TheVariants.{Unsigned, Signed}
use Rattle.tbl_maker.specs.declared.field_type.Width.{Width}
use Rattle.tbl_maker.specs.declared.field_type.Width.TheVariants.{One, Two, Four}
use Rattle.tbl_maker.specs.declared.field_type.FieldType.{FieldType}
use Rattle.tbl_maker.specs.declared.field_type.FieldType.TheVariants.{Number, Hex}

abbrev pub width_of : Width → int.Width
width_of One = w8
width_of Two = w16
width_of Four = w32

-- how many numbers have the width
abbrev pub modulus_of : Width → ℕ
modulus_of One = 2 ^ 8
modulus_of Two = 2 ^ 16
modulus_of Four = 2 ^ 32

-- how many bytes a field of the type has
abbrev pub size_of : FieldType → ℕ
size_of (Number sign width) = byte_len (width_of width)
size_of (Hex len) = len

-- u or i
abbrev pub sign_letter : Sign → ℕ
sign_letter Unsigned = 117
sign_letter Signed = 105

abbrev pub width_digits : Width → List ℕ
width_digits One = codes "8"
width_digits Two = codes "16"
width_digits Four = codes "32"

-- u8, u16, u32, i8, i16, i32, and hex for bytes of any length
abbrev pub type_word : FieldType → List ℕ
type_word (Number sign width) = sign_letter sign ∷ width_digits width
type_word (Hex len) = codes "hex"

-- the same in a shape, where hex tells how many bytes there are
abbrev pub sized_word : FieldType → List ℕ
sized_word (Number sign width) = sign_letter sign ∷ width_digits width
sized_word (Hex len) = codes "hex" ++ decimal len

-- the width with these digits is found, the sign with this letter, or both in a word; or there is none
pub record FindsWidth (digits : List ℕ) (result : Option Width) : Type 0 where
  pub some : IfSome result (λ width. digits ≡ width_digits width)
  pub none : IfNone result ((width : Width) → digits ≡ width_digits width → ⊥)

pub record FindsSign (letter : ℕ) (result : Option Sign) : Type 0 where
  pub some : IfSome result (λ sign. letter ≡ sign_letter sign)
  pub none : IfNone result ((sign : Sign) → letter ≡ sign_letter sign → ⊥)

pub record FindsNumberType (word : List ℕ) (result : Option (Sign × Width)) : Type 0 where
  pub some : IfSome result (λ kind. word ≡ sign_letter kind.0 ∷ width_digits kind.1)
  pub none : IfNone result ((sign : Sign) (width : Width) → word ≡ sign_letter sign ∷ width_digits width → ⊥)
