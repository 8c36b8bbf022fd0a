-- The check word: CRC-16/ARC, with the polynomial 0x8005 reflected, from 0 and with no last change.
use Rattle.std.specs.Prelude.{ℕ, zero, suc, ◌/◌, ◌%◌, ◌==◌, List, if◌then◌else◌, bit_xor}
use Rattle.std.specs.List.{fold}

-- the lowest bit goes out
abbrev pub after_bit : ℕ → ℕ
after_bit word = if word % 2 == 1 then bit_xor (word / 2) 0xA001 else word / 2

abbrev pub after_bits : ℕ → ℕ → ℕ
after_bits zero word = word
after_bits (suc n) word = after_bits n (after_bit word)

-- a byte goes into the low byte, and eight bits go out
unfoldable pub after_byte : ℕ → ℕ → ℕ
after_byte word byte = after_bits 8 (bit_xor word byte)

abbrev pub check16 : List ℕ → ℕ
check16 bytes = fold after_byte 0 bytes
