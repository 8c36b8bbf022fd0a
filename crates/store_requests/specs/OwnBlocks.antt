-- What the model says of a block of an application's own, once its slot is known.
use Rattle.std.specs.Prelude.{◌≡◌, ℕ, ◌==◌, ◌≤◌, true, false, List, [], ◌∷◌, length, Option, Some, Result, Ok, Err, if◌then◌else◌}
use Rattle.tbl_kinds.specs.Blocks.{Stored, Store as Blocks}
use Rattle.tbl_kinds.specs.Names.{is_name}
use Rattle.tbl_kinds.specs.StoreSteps.{has_room}
use Rattle.tbl_kinds.specs.declared.block.BlockKind.{BlockKind}
use Rattle.tbl_kinds.specs.declared.status.Status.{Status}
use Rattle.tbl_outside.specs.declared.bank.Bank.{Ghosts}
use Rattle.cds_store.specs.Slots.{open_slot}
use Rattle.cds_store.specs.Sound.{slot_at, IsOpenOf}
use Rattle.cds_store.specs.StoreBlocks.{StoreParts, StandsFor}
use Rattle.store_requests.specs.Called.{CanKeep}
use Rattle.store_requests.specs.declared.own_blocks.GiveRoom.{GiveRoom}
use Rattle.store_requests.specs.declared.own_blocks.Own.{Own}
use Rattle.tbl_kinds.specs.Notes.{restored_image}
use Rattle.tbl_kinds.specs.StoreCalls.{copy, restore, delete}
use Rattle.tbl_kinds.specs.declared.block.BlockKind.TheVariants as kind
use Rattle.tbl_kinds.specs.declared.note.BankNote.{BankNote}
use Rattle.tbl_kinds.specs.declared.status.TheConstants.Status.{SUCCESS, ERR_IMAGE_SIZE}
use Rattle.tbl_model.specs.State.{State}
use Rattle.tbl_model.specs.BankCounts.{tells_trouble}
use Rattle.tbl_model.specs.Effects.{Effect, answered}
use Rattle.tbl_model.specs.StoreUse.{then_call}
use Rattle.tbl_model.specs.AppBlocks.{faulted, if_block, new_slot, renewal, restore_answer}

-- the block of another size in this slot is deleted, and one of this size is made
abbrev pub renewing : State → List ℕ → ℕ → ℕ → BankNote → Effect
renewing s name size old note = then_call (renewal kind.App name size (Some old)) note faulted (answered s SUCCESS (new_slot kind.App name (Some old) s.store))

-- an image is copied into the block, if it has the block's size
abbrev pub copying : State → ℕ → ℕ → List ℕ → BankNote → Effect
copying s slot size image note = if length image == size then then_call (copy slot image ∷ []) note faulted (answered s SUCCESS 0) else answered s ERR_IMAGE_SIZE 0

abbrev pub restoring : State → ℕ → BankNote → Effect
restoring s slot note = then_call (restore slot (restored_image note) ∷ []) note faulted (restore_answer s note.torn (restored_image note))

abbrev pub deleting : State → ℕ → BankNote → Effect
deleting s slot note = then_call (delete slot ∷ []) note faulted (answered s SUCCESS 0)

-- ---- which block it is

-- the application has a block of its own in this slot, of this size
abbrev pub FindsOwn : State → ℕ → ℕ → ℕ → Type 0
FindsOwn s app slot size = (effect : Stored → Effect) → (b : Stored) × (b.block.size ≡ size) × (if_block s app slot effect ≡ effect b)

-- it has none, and is answered so
abbrev pub Misses : State → ℕ → ℕ → Status → Type 0
Misses s app slot status = (effect : Stored → Effect) → if_block s app slot effect ≡ answered s status 0

-- of these applications this one has a block of its own under this number
pub record HasOwn {B : Type 0} (g : Ghosts B) (store : StoreParts B) (apps : List (Option (List ℕ))) (app number : ℕ) (own : Own) : Type 0 where
  pub slot : own.slot ≡ number
  pub sized : IsOpenOf own.size (slot_at store.slots own.slot)
  pub within : own.size ≤ 16384
  pub ok : (s : State) → s.apps ≡ apps → StandsFor g.tells g.now store s.store → FindsOwn s app number own.size

-- it has none, and the answer reports no trouble with the bank
pub record LacksOwn {B : Type 0} (g : Ghosts B) (store : StoreParts B) (apps : List (Option (List ℕ))) (app number : ℕ) (status : Status) : Type 0 where
  pub err : (s : State) → s.apps ≡ apps → StandsFor g.tells g.now store s.store → Misses s app number status
  pub harmless : tells_trouble status ≡ false

abbrev pub OwnBlock : {B : Type 0} → Ghosts B → StoreParts B → List (Option (List ℕ)) → ℕ → ℕ → Result Own Status → Type 0
OwnBlock g store apps app number (Ok own) = HasOwn g store apps app number own
OwnBlock g store apps app number (Err status) = LacksOwn g store apps app number status

-- ---- what holds before a block is made

-- a block can have this name and size
pub record CanReserve (name : List ℕ) (size : ℕ) : Type 0 where
  pub named : is_name name ≡ true
  pub some_bytes : 1 ≤ size
  pub within : size ≤ 16384

-- the open block of this name is in this slot, and there is room for one of this size in its place
pub record CanRenew {B : Type 0} (g : Ghosts B) (store : StoreParts B) (kind : BlockKind) (name : List ℕ) (size slot : ℕ) : Type 0 where
  pub open_block : open_slot kind name store.slots ≡ Some slot
  pub room : (blocks : Blocks) → StandsFor g.tells g.now store blocks → has_room size (Some slot) blocks ≡ true

-- there is room for an image of this size, which is restored
pub record CanGive (size : ℕ) (room : GiveRoom) : Type 0 where
  pub note : CanKeep size room.note
  pub empty : room.reply.list ≡ []
  pub spare : size ≤ room.reply.spare
