-- A directory entry: a gate byte, and 63 bytes that tell a block.
use Rattle.std.specs.Prelude.{ℕ, ◌+◌, ◌*◌, ◌==◌, Bool, ◌&&◌, nat_le, nat_lt, if◌then◌else◌, List, ◌∷◌, ◌++◌, replicate, Option, Some, None, option_and_then}
use Rattle.tbl_kinds.specs.Numbers.{four, piece, byte_at, four_at}
use Rattle.tbl_kinds.specs.Names.{is_name, name_in, name_field}
use Rattle.tbl_kinds.specs.Heads.{is_name_field}
use Rattle.tbl_kinds.specs.Places.{is_inside}
use Rattle.tbl_kinds.specs.Limits.{table_limit}
use Rattle.tbl_kinds.specs.declared.block.Block.{Block}
use Rattle.tbl_kinds.specs.declared.block.BlockKind.{BlockKind}
use Rattle.tbl_kinds.specs.declared.block.BlockKind.TheVariants.{Table, App}
use Rattle.cds_layout.specs.declared.turns.Place.{Place}
use Rattle.cds_layout.specs.declared.turns.Place.TheVariants.{First, Second}

-- ---- places

abbrev pub slot_count : ℕ
slot_count = 128

-- the gate byte of a slot's entry, and the bytes after it
abbrev pub gate_place : ℕ → ℕ
gate_place slot = 16 + 64 * slot

abbrev pub tail_place : ℕ → ℕ
tail_place slot = 17 + 64 * slot

abbrev pub tail_len : ℕ
tail_len = 63

-- the gate byte of an open block
abbrev pub gate_open : ℕ
gate_open = 0xA5

abbrev pub gate_at : List ℕ → ℕ → ℕ
gate_at bytes slot = byte_at (gate_place slot) bytes

-- of the bytes after the gate, the first so many tell the block
abbrev pub told_len : ℕ
told_len = 51

abbrev pub told_at : List ℕ → ℕ → List ℕ
told_at bytes slot = piece (tail_place slot) told_len bytes

-- then come the two turn bytes of the block's places, which a copy writes
abbrev pub turns_place : ℕ → ℕ
turns_place slot = 68 + 64 * slot

abbrev pub turns_len : ℕ
turns_len = 2

abbrev pub turn_place : ℕ → Place → ℕ
turn_place slot First = turns_place slot
turn_place slot Second = 69 + 64 * slot

-- ---- what is written

abbrev pub kind_byte : BlockKind → ℕ
kind_byte Table = 1
kind_byte App = 2

-- the kind, two zeros, offset, size, full name; then twelve zeros, so that both places are closed
unfoldable pub entry_tail : Block → List ℕ
entry_tail b = kind_byte b.kind ∷ 0 ∷ 0 ∷ four b.offset ++ four b.size ++ name_field 40 b.name ++ replicate 12 0

-- ---- what is read

-- a block that can be there: of 1 to 16,384 bytes, inside the bank, under a name
abbrev pub is_right : Block → Bool
is_right b = nat_lt 0 b.size && nat_le b.size table_limit && is_inside b.offset b.size && is_name b.name

abbrev pub kind_in : ℕ → Option BlockKind
kind_in n = if n == 1 then Some Table else (if n == 2 then Some App else None)

abbrev pub block_of_kind : List ℕ → BlockKind → Block
block_of_kind tail kind = record { kind = kind; offset = four_at 3 tail; size = four_at 7 tail; name = name_in (piece 11 40 tail) }

abbrev pub if_right : List ℕ → Block → Option Block
if_right tail b = if is_right b && is_name_field (piece 11 40 tail) then Some b else None

-- the block that the bytes after a gate tell. The zeros aren't looked at, but for those after the name
unfoldable pub block_in : List ℕ → Option Block
block_in tail = option_and_then (λ kind. if_right tail (block_of_kind tail kind)) (kind_in (byte_at 0 tail))
