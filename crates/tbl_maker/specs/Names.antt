-- The names in a description: that of a table, and those of its fields.
use Rattle.std.specs.Prelude.{ℕ, ◌==◌, Bool, ◌&&◌, ◌||◌, nat_lt, nat_le, List, length}
use Rattle.std.specs.List.{list_all, before_first, after_first}
use Rattle.tbl_kinds.specs.Names.{is_name}

abbrev pub is_dot : ℕ → Bool
is_dot b = b == 46

-- a name of at most so many bytes
abbrev pub is_name_within : ℕ → List ℕ → Bool
is_name_within most bytes = is_name bytes && nat_le (length bytes) most

-- an application's name of at most 20 bytes, a dot, and a table's name of at most 16. The first dot ends the application's
abbrev pub is_full_name : List ℕ → Bool
is_full_name bytes = is_name_within 20 (before_first is_dot bytes) && is_name_within 16 (after_first is_dot bytes)

-- a to z, 0 to 9, or an underscore
abbrev pub is_field_byte : ℕ → Bool
is_field_byte b = (nat_le 97 b && nat_le b 122) || (nat_le 48 b && nat_le b 57) || b == 95

-- 1 to 16 of these
abbrev pub is_field_name : List ℕ → Bool
is_field_name bytes = nat_lt 0 (length bytes) && nat_le (length bytes) 16 && list_all is_field_byte bytes
