-- What a name is, and what a field of bytes reads as.
use Rattle.std.specs.Prelude.{◌≡◌, ℕ, ◌-◌, ◌==◌, ◌≤◌, List, ◌++◌, length, take, replicate, Bool, nat_lt, nat_le, ◌&&◌}
use Rattle.std.specs.List.{list_all, before_first}

-- a byte from 0x21 to 0x7E
abbrev pub is_printable_byte : ℕ → Bool
is_printable_byte b = nat_le 0x21 b && nat_le b 0x7e

-- one byte or more, each printable and no space
abbrev pub is_name : List ℕ → Bool
is_name bytes = nat_lt 0 (length bytes) && list_all is_printable_byte bytes

abbrev pub is_zero : ℕ → Bool
is_zero b = b == 0

-- what a field reads as: its bytes before the first zero byte, or all of them
abbrev pub name_in : List ℕ → List ℕ
name_in field = before_first is_zero field

-- no byte is zero
abbrev pub HasNoZero : List ℕ → Type 0
HasNoZero bytes = name_in bytes ≡ bytes

-- a written field: the name, and then zeros
abbrev pub name_field : ℕ → List ℕ → List ℕ
name_field width name = name ++ replicate (width - length name) 0

-- a field that was written for a name of so many bytes
pub record HoldsName (width len : ℕ) (field : List ℕ) : Type 0 where
  pub within : len ≤ width
  pub no_zero : HasNoZero (take len field)
  pub written : name_field width (take len field) ≡ field
