-- Numbers in bytes, the high byte first.
use Rattle.std.specs.Prelude.{ℕ, ◌+◌, List, ◌++◌, take, drop, length, slice_index}
use Rattle.std.specs.Int.{w16, w32, to_be_bytes, from_be_bytes}

-- a number in two bytes, and in four
abbrev pub two : ℕ → List ℕ
two n = to_be_bytes w16 n

abbrev pub four : ℕ → List ℕ
four n = to_be_bytes w32 n

-- so many bytes at a place
abbrev pub piece : ℕ → ℕ → List ℕ → List ℕ
piece place len bytes = take len (drop place bytes)

-- the bytes, with others over some of them from a place on
abbrev pub patched : List ℕ → ℕ → List ℕ → List ℕ
patched bytes place others = take place bytes ++ others ++ drop (place + length others) bytes

-- the number in the byte, the two bytes or the four bytes at a place
abbrev pub byte_at : ℕ → List ℕ → ℕ
byte_at place bytes = slice_index bytes place

abbrev pub two_at : ℕ → List ℕ → ℕ
two_at place bytes = from_be_bytes w16 (piece place 2 bytes)

abbrev pub four_at : ℕ → List ℕ → ℕ
four_at place bytes = from_be_bytes w32 (piece place 4 bytes)
