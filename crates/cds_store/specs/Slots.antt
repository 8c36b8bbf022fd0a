-- What is asked of the slots.
use Rattle.std.specs.Prelude.{ℕ, ◌<◌, ◌≤◌, List, length, Bool, false, not, ◌&&◌, Option, Some, None, IfSome, position, slice_set}
use Rattle.std.specs.List.{filter_map}
use Rattle.std.specs.Option.{option_map}
use Rattle.tbl_kinds.specs.Places.{place}
use Rattle.tbl_kinds.specs.StoreSteps.{is_of}
use Rattle.tbl_kinds.specs.Free.{least_free}
use Rattle.tbl_kinds.specs.declared.block.Block.{Block}
use Rattle.tbl_kinds.specs.declared.block.BlockKind.{BlockKind}
use Rattle.cds_store.specs.declared.slot.Slot.{Slot}

-- an open block of this kind and name
abbrev pub is_open_slot : BlockKind → List ℕ → Option Slot → Bool
is_open_slot kind name None = false
is_open_slot kind name (Some s) = is_of kind name s.block && not s.doubtful

-- one in doubt
abbrev pub is_doubtful_slot : BlockKind → List ℕ → Option Slot → Bool
is_doubtful_slot kind name None = false
is_doubtful_slot kind name (Some s) = is_of kind name s.block && s.doubtful

-- whether it has an open block, of whatever name
abbrev pub has_open : Option Slot → Bool
has_open None = false
has_open (Some s) = not s.doubtful

abbrev pub open_slot : BlockKind → List ℕ → List (Option Slot) → Option ℕ
open_slot kind name slots = position (is_open_slot kind name) slots

abbrev pub doubtful_slot : BlockKind → List ℕ → List (Option Slot) → Option ℕ
doubtful_slot kind name slots = position (is_doubtful_slot kind name) slots

-- the slots, with the named one counted as free
abbrev pub without_slot : Option ℕ → List (Option Slot) → List (Option Slot)
without_slot None slots = slots
without_slot (Some n) slots = slice_set slots n None

-- there are at most 128 slots, of which the named one is one
pub record CanFree (slots : List (Option Slot)) (without : Option ℕ) : Type 0 where
  pub len : length slots ≤ 128
  pub within : IfSome without (λ n. n < length slots)

-- the blocks whose room is taken
abbrev pub block_of : Slot → Block
block_of s = s.block

abbrev pub blocks_of : List (Option Slot) → List Block
blocks_of slots = filter_map (option_map block_of) slots

abbrev pub both : Option ℕ → Option ℕ → Option (ℕ × ℕ)
both (Some n) (Some at) = Some (n, at)
both _ _ = None

-- the least free slot, and the least place for a block of this size
abbrev pub room_in : ℕ → List (Option Slot) → Option (ℕ × ℕ)
room_in size slots = both (least_free slots) (place (blocks_of slots) size)

-- the blocks of a list
pub record Listed : Type 0 where
  pub items : List Block
