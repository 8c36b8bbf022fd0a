-- The store that an image of the bank stands for.
use Rattle.std.specs.Prelude.{ℕ, ◌+◌, ◌*◌, ◌==◌, Bool, false, ◌&&◌, if◌then◌else◌, List, [], ◌∷◌, ◌++◌, Option, Some, None}
use Rattle.std.specs.Option.{option_map}
use Rattle.tbl_kinds.specs.Numbers.{two, four, piece, byte_at, two_at, four_at}
use Rattle.tbl_kinds.specs.Check.{check16}
use Rattle.tbl_kinds.specs.Places.{between_places}
use Rattle.tbl_kinds.specs.Blocks.{Stored, Store}
use Rattle.tbl_kinds.specs.declared.block.Block.{Block}
use Rattle.cds_layout.specs.Directory.{directory_of, is_first_version}
use Rattle.cds_layout.specs.Entries.{turn_place}
use Rattle.cds_layout.specs.Turns.{turn_of, shown_by, other, opened_by}
use Rattle.cds_layout.specs.declared.turns.Turn.{Turn}
use Rattle.cds_layout.specs.declared.turns.Place.{Place}
use Rattle.cds_layout.specs.declared.turns.Place.TheVariants.{First, Second}

-- ---- a place

-- where a place of a block begins
abbrev pub place_at : Block → Place → ℕ
place_at b First = b.offset
place_at b Second = b.offset + between_places

-- the head of a place: the length and the check word of its image, and two zeros
unfoldable pub block_head : ℕ → ℕ → List ℕ
block_head length word = four length ++ two word ++ 0 ∷ 0 ∷ []

abbrev pub head_len : ℕ
head_len = 8

-- an image of this size as it stands in a place: the head, and then its bytes
unfoldable pub spelled : ℕ → List ℕ → List ℕ
spelled size image = block_head size (check16 image) ++ image

abbrev pub data_place : Block → Place → ℕ
data_place b place = place_at b place + head_len

abbrev pub data_in : List ℕ → Block → Place → List ℕ
data_in bytes b place = piece (data_place b place) b.size bytes

abbrev pub kept_length : List ℕ → Block → Place → ℕ
kept_length bytes b place = four_at (place_at b place) bytes

abbrev pub kept_word : List ℕ → Block → Place → ℕ
kept_word bytes b place = two_at (place_at b place + 4) bytes

-- its head has the block's size and the check word of its bytes. The two zeros aren't looked at
abbrev pub is_whole : List ℕ → Block → Place → Bool
is_whole bytes b place = (kept_length bytes b place == b.size) && (kept_word bytes b place == check16 (data_in bytes b place))

-- ---- which place shows

-- the turn that stands in a slot's entry for a place
abbrev pub turn_in : List ℕ → ℕ → Place → Option Turn
turn_in bytes slot place = turn_of (byte_at (turn_place slot place) bytes)

-- the place that shows by these turns, the one that doesn't, and the turn with which a copy opens that one
abbrev pub turned_in : List ℕ → ℕ → Option Place
turned_in bytes slot = shown_by (turn_in bytes slot First) (turn_in bytes slot Second)

abbrev pub hidden_in : List ℕ → ℕ → Place
hidden_in bytes slot = other (turned_in bytes slot)

abbrev pub opened_in : List ℕ → ℕ → Turn
opened_in bytes slot = opened_by (turn_in bytes slot First) (turn_in bytes slot Second)

-- the place that shows: in a store of the first version the first one
abbrev pub shown_in : List ℕ → ℕ → Option Place
shown_in bytes slot = if is_first_version bytes then Some First else turned_in bytes slot

-- ---- what a block holds

-- the image of the place that shows, where that is whole
abbrev pub held_by : List ℕ → Block → Option Place → Option (List ℕ)
held_by bytes b None = None
held_by bytes b (Some place) = if is_whole bytes b place then Some (data_in bytes b place) else None

unfoldable pub held_in : List ℕ → ℕ → Block → Option (List ℕ)
held_in bytes slot b = held_by bytes b (shown_in bytes slot)

abbrev pub stored_in : List ℕ → ℕ → Block → Stored
stored_in bytes slot b = record { block = b; held = held_in bytes slot b; trying = []; doubtful = false }

-- what is told of a block that holds none: 0 where no place shows, else the check word of its head times 65,536, plus that of
-- its bytes
abbrev pub words_by : List ℕ → Block → Option Place → ℕ
words_by bytes b None = 0
words_by bytes b (Some place) = kept_word bytes b place * 65536 + check16 (data_in bytes b place)

abbrev pub words_in : List ℕ → ℕ → Block → ℕ
words_in bytes slot b = words_by bytes b (shown_in bytes slot)

-- blocks with what they hold, from a slot on
abbrev pub stored_from : List ℕ → ℕ → List (Option Block) → Store
stored_from bytes slot [] = []
stored_from bytes slot (block ∷ blocks) = option_map (stored_in bytes slot) block ∷ stored_from bytes (slot + 1) blocks

-- the open blocks with what they hold
unfoldable pub store_of : List ℕ → Store
store_of bytes = stored_from bytes 0 (directory_of bytes)
