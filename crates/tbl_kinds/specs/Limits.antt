-- How large things can be.
use Rattle.std.specs.Prelude.{ℕ}

-- the largest table, and the largest block of the store
abbrev pub table_limit : ℕ
table_limit = 16384

-- the largest uplinked file
abbrev pub file_limit : ℕ
file_limit = 32768
