-- Which lists of blocks a store represents.
use Rattle.std.specs.Prelude.{◌≡◌, ℕ, List, map, slice_set, Bool, true, false, Option, Some, None, Result, Ok, Err, option_and_then}
use Rattle.std.specs.Option.{option_map, ForSome}
use Rattle.tbl_kinds.specs.Blocks.{Stored, Store as Blocks}
use Rattle.tbl_kinds.specs.StoreCalls.{restore, after, broken}
use Rattle.tbl_kinds.specs.StoreSteps.{Shows, stored_at, MayGive, new_block, freed, delete_broken}
use Rattle.tbl_kinds.specs.declared.block.Block.{Block}
use Rattle.cds_layout.specs.declared.blocks.RestoreFault.{RestoreFault}
use Rattle.cds_layout.specs.Restores.{words}
use Rattle.cds_layout.specs.Images.{held_in, store_of}
use Rattle.cds_store.specs.declared.slot.Slot.{Slot}

-- what a store keeps: the directory slots, its bank, and whether it was booted
pub record StoreParts (B : Type 0) : Type 0 where
  pub slots : List (Option Slot)
  pub bank : B
  pub booted : Bool

abbrev pub slot_of : Stored → Slot
slot_of b = record { block = b.block; doubtful = b.doubtful }

-- each block holds what a restore of it may give: also one in doubt whose gate is closed, since a write that breaks off
-- may open that gate again
abbrev pub AreHeld : List ℕ → Blocks → Type 0
AreHeld bytes blocks = (slot : ℕ) → ForSome (stored_at blocks slot) (λ b. MayGive b (held_in bytes slot b.block))

-- the open and the doubtful blocks are these, and what the bank holds shows them, if it shows its bytes
pub record StandsFor {B : Type 0} (tells : Type 0) (now : B → List ℕ) (kept : StoreParts B) (blocks : Blocks) : Type 0 where
  pub slots : kept.slots ≡ map (option_map slot_of) blocks
  pub shows : tells → Shows blocks (store_of (now kept.bank))
  pub holds : tells → AreHeld (now kept.bank) blocks

-- a store that was booted
abbrev pub kept : {B : Type 0} → List (Option Slot) → B → StoreParts B
kept slots bank = record { slots = slots; bank = bank; booted = true }

-- a slot whose gate is in doubt
abbrev pub doubted : Slot → Slot
doubted s = record { block = s.block; doubtful = true }

-- with a new block in a slot
abbrev pub with_new : Bool → ℕ → Block → Blocks → Blocks
with_new doubtful slot block blocks = slice_set blocks slot (Some (new_block doubtful block.kind block.name block.size block.offset))

-- if the write that broke off was of its gate, it is in doubt, and else it isn't there
abbrev pub made_or_not : Bool → ℕ → Block → Blocks → Blocks
made_or_not true slot block blocks = with_new true slot block blocks
made_or_not false slot block blocks = blocks

-- if the write that closes the gate of a doubtful block broke off
abbrev pub closing : Option ℕ → Blocks → Blocks
closing None blocks = blocks
closing (Some slot) blocks = delete_broken slot blocks

-- if a new block was to be made as well, and the doubtful one was closed before
abbrev pub broken_at : Bool → Bool → Option ℕ → ℕ → Block → Blocks → Blocks
broken_at gate true old slot block blocks = closing old blocks
broken_at gate false old slot block blocks = made_or_not gate slot block (freed old blocks)

-- a restore that gave no image: either the block was read and gave none, or the restore broke off
abbrev pub after_words : Option ℕ → ℕ → Blocks → Blocks
after_words (Some told) slot blocks = after (restore slot None) blocks
after_words None slot blocks = broken false false (restore slot None) blocks

abbrev pub after_fault : RestoreFault → ℕ → Blocks → Blocks
after_fault fault slot blocks = after_words (words fault) slot blocks

-- what the block in a slot holds
abbrev pub held_at : ℕ → Blocks → Option (List ℕ)
held_at slot blocks = option_and_then (λ (b : Stored). b.held) (stored_at blocks slot)

-- what a restore says of a block that holds this: its image, or that there is none; after a fault nothing
abbrev pub HasNone : Option ℕ → Option (List ℕ) → Type 0
HasNone (Some told) held = held ≡ None
HasNone None held = Unit {0}

abbrev pub ComesBack : Result Unit RestoreFault → Option (List ℕ) → List ℕ → Type 0
ComesBack (Ok x) held image = held ≡ Some image
ComesBack (Err fault) held image = HasNone (words fault) held
