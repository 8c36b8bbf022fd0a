-- An image whose copy was completed, and the calls of the store that take it away.
use Rattle.std.specs.Prelude.{◌≡◌, ℕ, List, [], All, false, Some}
use Rattle.tbl_kinds.specs.Blocks.{Stored, Store}
use Rattle.tbl_kinds.specs.StoreSteps.{stored_at}
use Rattle.tbl_kinds.specs.StoreCalls.{StoreCall, copy, delete}
use Rattle.tbl_kinds.specs.declared.block.Block.{Block}

-- an open block that holds this image, and no copy of it broke off since then
abbrev pub completed : Block → List ℕ → Stored
completed block image = record { block = block; held = Some image; trying = []; doubtful = false }

-- it is in this slot
abbrev pub HasCompleted : Store → ℕ → Block → List ℕ → Type 0
HasCompleted store slot block image = stored_at store slot ≡ Some (completed block image)

-- a call copies into the block of this slot, or deletes it
abbrev pub Touches : ℕ → StoreCall → Type 0
Touches slot (copy other image) = other ≡ slot
Touches slot (delete other) = other ≡ slot
Touches slot _ = ⊥

-- none of several does
abbrev pub LeaveAlone : ℕ → List StoreCall → Type 0
LeaveAlone slot calls = All (λ call. ¬ Touches slot call) calls
