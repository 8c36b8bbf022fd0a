-- A store as text, a line for each block and one for all.
use Rattle.std.specs.Prelude.{ℕ, ◌+◌, ◌-◌, List, [], ◌∷◌, ◌++◌, length, sum_by, codes, Option, Some, None}
use Rattle.std.specs.Fmt.{decimal}
use Rattle.tbl_kinds.specs.Blocks.{Stored, Store}
use Rattle.tbl_kinds.specs.Places.{blocks_begin, blocks_end}
use Rattle.tbl_kinds.specs.StoreSteps.{taken}
use Rattle.tbl_kinds.specs.declared.block.Block.{Block}
use Rattle.tbl_kinds.specs.declared.block.BlockKind.{BlockKind}
use Rattle.tbl_kinds.specs.declared.block.BlockKind.TheVariants.{Table, App}
use Rattle.cds_layout.specs.Images.{head_len}

abbrev pub kind_letter : BlockKind → List ℕ
kind_letter Table = codes "T"
kind_letter App = codes "A"

abbrev pub state_word : Option (List ℕ) → List ℕ
state_word None = codes "torn"
state_word (Some image) = codes "whole"

-- slot, offset, size, T or A, full name, whole or torn
abbrev pub block_line : ℕ → Stored → List ℕ
block_line slot b =
    decimal slot ++ codes " " ++ decimal b.block.offset ++ codes " " ++ decimal b.block.size ++ codes " "
    ++ kind_letter b.block.kind ++ codes " " ++ b.block.name ++ codes " " ++ state_word b.held ++ codes "\n"

abbrev pub lines_from : ℕ → Store → List ℕ
lines_from slot [] = []
lines_from slot (None ∷ store) = lines_from (slot + 1) store
lines_from slot (Some b ∷ store) = block_line slot b ++ lines_from (slot + 1) store

-- how many bytes the blocks take, their heads included
abbrev pub room_taken : Store → ℕ
room_taken store = sum_by (λ (b : Block). head_len + b.size) (taken store)

unfoldable pub text_of : Store → List ℕ
text_of store =
    lines_from 0 store
    ++ codes "blocks " ++ decimal (length (taken store)) ++ codes " free " ++ decimal ((blocks_end - blocks_begin) - room_taken store) ++ codes "\n"
