-- What the two validation functions answer.
use Rattle.std.specs.Prelude.{ℕ, ◌-◌, ◌==◌, List, length, take, if◌then◌else◌, slice_index_or, bit_xor}
use Rattle.std.specs.List.{fold}
use Rattle.std.specs.Prelude.{ℤ, pos, negsuc}

-- 0 where the first byte isn't 0, else -5
abbrev pub first_byte : List ℕ → ℤ
first_byte image = if slice_index_or image 0 0 == 0 then negsuc 4 else pos 0

-- the exclusive or of all these bytes
abbrev pub xor_of : List ℕ → ℕ
xor_of bytes = fold bit_xor 0 bytes

-- 0 where the last byte is the exclusive or of all bytes before it, else -7
abbrev pub last_xor : List ℕ → ℤ
last_xor image = let before = length image - 1 in if slice_index_or image before 0 == xor_of (take before image) then pos 0 else negsuc 6
