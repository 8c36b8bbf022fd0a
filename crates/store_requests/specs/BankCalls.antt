-- What a request on a block asks of the bank, call by call.
use Rattle.std.specs.Prelude.{◌≡◌, ℕ, List, [], ◌∷◌, ◌++◌, slice_set, true, false, Option, Some, None, unwrap_or}
use Rattle.std.specs.Option.{ForSome, option_map, option_map_or, option_or}
use Rattle.tbl_kinds.specs.Blocks.{Store as Blocks}
use Rattle.tbl_model.specs.Applications.{full_name}
use Rattle.tbl_kinds.specs.StoreCalls.{StoreCall, reserve, copy, restore, delete}
use Rattle.tbl_kinds.specs.declared.block.BlockKind.{BlockKind}
use Rattle.tbl_kinds.specs.declared.block.BlockKind.TheVariants as kind
use Rattle.tbl_kinds.specs.declared.note.Outcome.{Outcome}
use Rattle.tbl_kinds.specs.declared.note.Outcome.TheVariants.{Untouched, Done, Failed, Stopped}
use Rattle.tbl_outside.specs.BankCalls.{BankCall, Asks}
use Rattle.tbl_outside.specs.declared.bank.Bank.{Ghosts}
use Rattle.cds_layout.specs.Images.{spelled}
use Rattle.cds_layout.specs.Order.{restore_calls, copy_calls, delete_calls, close_calls, reserve_calls}
use Rattle.cds_store.specs.Slots.{open_slot, doubtful_slot, without_slot, room_in}
use Rattle.cds_store.specs.Sound.{slot_at}
use Rattle.cds_store.specs.StoreBlocks.{StoreParts, StandsFor}
use Rattle.cds_store.specs.declared.slot.Slot.{Slot}

-- by how the calls of the store went: if none was made, the bank is as it was; if they are done, it was asked all of this, and else the
-- first of it, up to what broke off
abbrev pub AsksBy : {B : Type 0} → Ghosts B → B → B → Outcome → List BankCall → Type 0
AsksBy g old new Untouched calls = new ≡ old
AsksBy g old new Done calls = Asks g.tells_calls g.calls old new true calls
AsksBy g old new Failed calls = Asks g.tells_calls g.calls old new false calls
AsksBy g old new Stopped calls = Asks g.tells_calls g.calls old new false calls

-- what a copy into the block of a slot asks over these bytes, and a restore of it
abbrev pub copy_at : List ℕ → List (Option Slot) → ℕ → List ℕ → List BankCall
copy_at bytes slots slot image = option_map_or (λ (s : Slot). copy_calls bytes slot s.block (spelled s.block.size image)) (slot_at slots slot) []

abbrev pub restore_at : List ℕ → List (Option Slot) → ℕ → List BankCall
restore_at bytes slots slot = option_map_or (λ (s : Slot). restore_calls bytes slot s.block) (slot_at slots slot) []

-- what the deletion of the block of a table of this name asks, open or in doubt
abbrev pub delete_named : List (Option Slot) → List ℕ → List BankCall
delete_named slots name = close_calls (option_or (open_slot kind.Table name slots) (doubtful_slot kind.Table name slots))

-- what it asks to make a block, if there is room for one
abbrev pub make_at : BlockKind → List (Option Slot) → List ℕ → ℕ → Option (List BankCall)
make_at kind slots name size =
    let old = doubtful_slot kind name slots in
    option_map (λ (room : ℕ × ℕ). reserve_calls old room.0 (record { kind = kind; offset = room.1; size = size; name = name })) (room_in size (without_slot old slots))

-- the block of an application of another size in this slot is deleted first
abbrev pub renew_at : List (Option Slot) → ℕ → List ℕ → ℕ → Option (List BankCall)
renew_at slots old name size = option_map (λ (calls : List BankCall). delete_calls old ++ calls) (make_at kind.App (slice_set slots old None) name size)

-- if there is one that is open
abbrev pub register_at : Option ℕ → List (Option Slot) → List ℕ → ℕ → Option (List BankCall)
register_at None slots name size = make_at kind.App slots name size
register_at (Some old) slots name size = renew_at slots old name size

-- ---- what a request asked that ended so

-- to delete the block of a slot
abbrev pub asks_delete : {B : Type 0} → ℕ → Ghosts B → StoreParts B → StoreParts B → Outcome → Type 0
asks_delete slot g old new outcome = AsksBy g old.bank new.bank outcome (delete_calls slot)

-- to delete that of a table of this name
abbrev pub asks_delete_named : {B : Type 0} → List ℕ → Ghosts B → StoreParts B → StoreParts B → Outcome → Type 0
asks_delete_named name g old new outcome = AsksBy g old.bank new.bank outcome (delete_named old.slots name)

-- to copy an image into it
abbrev pub asks_copy : {B : Type 0} → ℕ → List ℕ → Ghosts B → StoreParts B → StoreParts B → Outcome → Type 0
asks_copy slot image g old new outcome = g.tells → AsksBy g old.bank new.bank outcome (copy_at (g.now old.bank) old.slots slot image)

-- to restore its image
abbrev pub asks_restore : {B : Type 0} → ℕ → Ghosts B → StoreParts B → StoreParts B → Outcome → Type 0
asks_restore slot g old new outcome = g.tells → AsksBy g old.bank new.bank outcome (restore_at (g.now old.bank) old.slots slot)

-- to make a block of an application
abbrev pub asks_make : {B : Type 0} → List ℕ → ℕ → Ghosts B → StoreParts B → StoreParts B → Outcome → Type 0
asks_make name size g old new outcome = ForSome (make_at kind.App old.slots name size) (AsksBy g old.bank new.bank outcome)

-- to make it in the place of one of another size
abbrev pub asks_renew : {B : Type 0} → ℕ → List ℕ → ℕ → Ghosts B → StoreParts B → StoreParts B → Outcome → Type 0
asks_renew slot name size g old new outcome = (blocks : Blocks) → StandsFor g.tells g.now old blocks → ForSome (renew_at old.slots slot name size) (AsksBy g old.bank new.bank outcome)

-- one or the other, by whether one of this name is open
abbrev pub asks_register : {B : Type 0} → List ℕ → ℕ → Ghosts B → StoreParts B → StoreParts B → Outcome → Type 0
asks_register name size g old new outcome = (blocks : Blocks) → StandsFor g.tells g.now old blocks
    → ForSome (register_at (open_slot kind.App name old.slots) old.slots name size) (AsksBy g old.bank new.bank outcome)

-- for the application of this name, if it runs
abbrev pub asks_register_for : {B : Type 0} → Option (List ℕ) → List ℕ → ℕ → Ghosts B → StoreParts B → StoreParts B → Outcome → Type 0
asks_register_for own short size g old new outcome = ForSome (option_map (λ name. full_name name short) own) (λ name. asks_register name size g old new outcome)

-- ---- any calls of the store

-- what one asks over these bytes, if the store knows this of its slots
abbrev pub asked_by : List ℕ → List (Option Slot) → StoreCall → List BankCall
asked_by bytes slots (reserve kind name size) = unwrap_or (make_at kind slots name size) []
asked_by bytes slots (copy slot image) = copy_at bytes slots slot image
asked_by bytes slots (restore slot given) = restore_at bytes slots slot
asked_by bytes slots (delete slot) = delete_calls slot

-- a deletion frees its slot for the calls after it
abbrev pub slots_after : StoreCall → List (Option Slot) → List (Option Slot)
slots_after (delete slot) slots = slice_set slots slot None
slots_after _ slots = slots

-- what several ask, one after another. A copy and a restore, which go by the bytes, are the only ones of their request
abbrev pub asked_in : List ℕ → List (Option Slot) → List StoreCall → List BankCall
asked_in bytes slots [] = []
asked_in bytes slots (call ∷ calls) = asked_by bytes slots call ++ asked_in bytes (slots_after call slots) calls

-- a request that makes these calls asked so much, by how they went
abbrev pub AsksIn : {B : Type 0} → Ghosts B → StoreParts B → StoreParts B → Outcome → List StoreCall → Type 0
AsksIn g old new outcome calls = AsksBy g old.bank new.bank outcome (asked_in (g.now old.bank) old.slots calls)
