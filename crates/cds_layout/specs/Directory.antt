-- The directory that bytes of the bank tell.
use Rattle.std.specs.Prelude.{ℕ, zero, suc, ◌==◌, Bool, true, not, ◌&&◌, if◌then◌else◌, List, [], ◌∷◌, ◌++◌, take, replicate, Option, Some, None}
use Rattle.std.specs.List.{list_all}
use Rattle.std.specs.Str.{bytes_eq}
use Rattle.tbl_kinds.specs.Numbers.{byte_at}
use Rattle.tbl_kinds.specs.Places.{are_apart}
use Rattle.tbl_kinds.specs.StoreSteps.{same_block}
use Rattle.tbl_kinds.specs.declared.block.Block.{Block}
use Rattle.cds_layout.specs.Entries.{slot_count, gate_open, gate_at, told_at, block_in}

-- how many bytes the live mark and the directory have
abbrev pub directory_len : ℕ
directory_len = 8208

-- the letters CDS
abbrev pub live_mark : List ℕ
live_mark = 0x43 ∷ 0x44 ∷ 0x53 ∷ []

abbrev pub is_live : List ℕ → Bool
is_live bytes = bytes_eq (take 3 bytes) live_mark

-- the place of the version, and the digit of the first one, in which a block had one place. Any other byte is the second's
abbrev pub version_place : ℕ
version_place = 3

abbrev pub is_first_version : List ℕ → Bool
is_first_version bytes = byte_at version_place bytes == 0x31

-- two blocks that can be there together: no byte in common, and not of one kind and one name
abbrev pub agree : Block → Block → Bool
agree a b = are_apart a.offset a.size b.offset b.size && not (same_block a b)

abbrev pub agrees_at : Block → Option Block → Bool
agrees_at b None = true
agrees_at b (Some other) = agree b other

-- what the entry of a slot states: a block, where its gate is open and it tells one
abbrev pub stated : List ℕ → ℕ → Option Block
stated bytes slot = if gate_at bytes slot == gate_open then block_in (told_at bytes slot) else None

-- it counts where it agrees with each earlier one that counts
abbrev pub counted : List (Option Block) → Option Block → Option Block
counted earlier None = None
counted earlier (Some b) = if list_all (agrees_at b) earlier then Some b else None

-- the blocks of the first slots
abbrev pub directory_to : List ℕ → ℕ → List (Option Block)
directory_to bytes zero = []
directory_to bytes (suc slot) = let earlier = directory_to bytes slot in earlier ++ counted earlier (stated bytes slot) ∷ []

-- the open blocks, by slot
unfoldable pub directory_of : List ℕ → List (Option Block)
directory_of bytes = if is_live bytes then directory_to bytes slot_count else replicate slot_count None
