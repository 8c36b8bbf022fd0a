-- The lines of a store's text, by what the directory and the blocks tell.
use Rattle.std.specs.Prelude.{◌≡◌, ◌≢◌, ℕ, ◌+◌, ◌-◌, Bool, true, false, List, length, [], ◌++◌, codes, Option, Some, None, is_some, count_by, slice_index_or}
use Rattle.std.specs.List.{sum_by}
use Rattle.std.specs.Fmt.{decimal}
use Rattle.tbl_kinds.specs.Blocks.{Stored}
use Rattle.tbl_kinds.specs.Places.{blocks_begin, blocks_end}
use Rattle.tbl_kinds.specs.declared.block.Block.{Block}
use Rattle.cds_layout.specs.Entries.{slot_count, is_right}
use Rattle.cds_layout.specs.Directory.{agree}
use Rattle.cds_layout.specs.Images.{head_len}
use Rattle.cds_layout.specs.Texts.{kind_letter, block_line}

-- a slot's block is one that can be there
abbrev pub IsRightAt : Option Block → Type 0
IsRightAt None = Unit {0}
IsRightAt (Some b) = is_right b ≡ true

abbrev pub AreRight : List (Option Block) → Type 0
AreRight blocks = (slot : ℕ) → IsRightAt (slice_index_or blocks slot None)

-- the blocks of a directory can be there together: one a slot at most, and no two of different slots have a byte, or kind and name, in common
pub record CanBeTogether (blocks : List (Option Block)) : Type 0 where
  pub slots : length blocks ≡ slot_count
  pub right : AreRight blocks
  pub apart : (i j : ℕ) (a b : Block) → i ≢ j → slice_index_or blocks i None ≡ Some a → slice_index_or blocks j None ≡ Some b → agree a b ≡ true

abbrev pub word_of : Bool → List ℕ
word_of true = codes "whole"
word_of false = codes "torn"

-- the line of a block
abbrev pub told_line : ℕ → Block → Bool → List ℕ
told_line slot b whole =
    decimal slot ++ codes " " ++ decimal b.offset ++ codes " " ++ decimal b.size ++ codes " "
    ++ kind_letter b.kind ++ codes " " ++ b.name ++ codes " " ++ word_of whole ++ codes "\n"

-- what a slot adds to the text
abbrev pub line_at : ℕ → Option Stored → List ℕ
line_at slot None = []
line_at slot (Some b) = block_line slot b

-- how many bytes the block of a slot takes, its head included
abbrev pub room_at : Option Block → ℕ
room_at None = 0
room_at (Some b) = head_len + b.size

-- the line for all blocks
abbrev pub last_line : ℕ → ℕ → List ℕ
last_line count room = codes "blocks " ++ decimal count ++ codes " free " ++ decimal ((blocks_end - blocks_begin) - room) ++ codes "\n"

abbrev pub last_line_of : List (Option Block) → List ℕ
last_line_of blocks = last_line (count_by is_some blocks) (sum_by room_at blocks)
