-- Hexadecimal digits, 0 to 9 and A to F.
use Rattle.std.specs.Prelude.{◌≡◌, ℕ, ◌<◌, true, Option, IfSome, IfNone}
use Rattle.std.specs.Fmt.{digit_glyph}

-- the byte stands for this digit
pub record IsDigit (byte digit : ℕ) : Type 0 where
  pub byte_is : byte ≡ digit_glyph true digit
  pub small : digit < 16

abbrev pub IsNoDigit : ℕ → Type 0
IsNoDigit byte = (digit : ℕ) → digit < 16 → byte ≡ digit_glyph true digit → ⊥

-- the digit is found, or the byte stands for none
pub record FindsDigit (byte : ℕ) (result : Option ℕ) : Type 0 where
  pub some : IfSome result (λ digit. IsDigit byte digit)
  pub none : IfNone result (IsNoDigit byte)
