-- What each call of the store promises, over what the store keeps before it and after it.
use Rattle.std.specs.Prelude.{◌≡◌, ℕ, ◌<◌, List, [], slice_set, not, Bool, true, false, Option, Some, None, is_ok, IsSome, IfSome, IfOk, OnOk, IfErr, Result}
use Rattle.std.specs.Option.{ForSome}
use Rattle.tbl_kinds.specs.Blocks.{Store as Blocks}
use Rattle.tbl_kinds.specs.Free.{least_free}
use Rattle.tbl_kinds.specs.StoreCalls.{reserve, copy, restore, delete, after, broken, CanBreak}
use Rattle.tbl_kinds.specs.StoreSteps.{stored_at, doubtful_of, has_room, closed, booted}
use Rattle.tbl_kinds.specs.declared.block.BlockKind.{BlockKind}
use Rattle.tbl_kinds.specs.declared.request.ResetKind.{ResetKind}
use Rattle.tbl_outside.specs.Bank.{LeavesOnly}
use Rattle.tbl_outside.specs.BankCalls.{BankCall, Asks}
use Rattle.tbl_outside.specs.declared.bank.Bank.{Ghosts}
use Rattle.cds_layout.specs.Images.{spelled, store_of}
use Rattle.cds_layout.specs.Order.{reserve_calls, copy_calls, restore_calls, delete_calls}
use Rattle.cds_layout.specs.Restores.{TellsTorn, SaysWhy, RestoreCounted, was_read}
use Rattle.cds_layout.specs.declared.blocks.RestoreFault.{RestoreFault}
use Rattle.cds_store.specs.Boots.{BeginsAt, found_by}
use Rattle.cds_store.specs.Calls.{Steady, CallCounted, ReserveCounted, HasFlags, IfBank, lacks_room, is_gate, is_old}
use Rattle.cds_store.specs.Moments.{BootLeaves, LeavesIn, CopyTears}
use Rattle.cds_store.specs.Slots.{open_slot, doubtful_slot, without_slot, room_in}
use Rattle.cds_store.specs.Sound.{slot_at}
use Rattle.cds_store.specs.StoreBlocks.{StoreParts, StandsFor, after_fault, held_at, ComesBack}
use Rattle.cds_store.specs.declared.fault.BankFault.{BankFault}
use Rattle.cds_store.specs.declared.fault.ReserveFault.{ReserveFault}

-- which slot was found, by the slots and by the blocks that they stand for
pub record Finds {B : Type 0} (g : Ghosts B) (kept : StoreParts B) (in_slots : Option ℕ) (in_blocks : Blocks → Option ℕ) (result : Option ℕ) : Type 0 where
  pub slot : result ≡ in_slots
  pub block : (blocks : Blocks) → StandsFor g.tells g.now kept blocks → result ≡ in_blocks blocks
  pub within : IfSome result (λ slot. slot < 128)

-- a boot, which asks these calls of the bank once the directory is there
pub record Boots {B : Type 0} (g : Ghosts B) (old new : StoreParts B) (kind : ResetKind) (calls : List BankCall) (result : Result (List ℕ) BankFault) : Type 0 where
  pub ok : IfOk result (λ found. g.tells → (blocks : Blocks) → BeginsAt g.tells g.now old blocks → StandsFor g.tells g.now new (booted kind found blocks))
  pub found : IfOk result (λ found. g.tells → found ≡ found_by kind old.slots (store_of (g.now old.bank)))
  -- the bank is left as a reset inside the call may leave it
  pub left : g.tells → (blocks : Blocks) → BeginsAt g.tells g.now old blocks → BootLeaves kind blocks (g.now new.bank)
  pub moments : g.tells_moments → (blocks : Blocks) → BeginsAt g.tells g.now old blocks → LeavesOnly g.clock g.left_since old.bank new.bank (BootLeaves kind blocks)
  pub steady : Steady g.size g.faults g.stops old.bank new.bank
  pub counted : CallCounted g.faults g.stops old.bank new.bank result
  pub bank_calls : g.tells → Asks g.tells_calls g.calls old.bank new.bank (is_ok result) calls
  pub not_old : IfErr result (λ fault. is_old fault ≡ false)

-- a reservation of a block of this kind, name and size
pub record Reserves {B : Type 0} (g : Ghosts B) (old new : StoreParts B) (kind : BlockKind) (name : List ℕ) (size : ℕ) (result : Result ℕ ReserveFault) : Type 0 where
  pub booted : new.booted ≡ true
  pub ok : OnOk result ((blocks : Blocks) → StandsFor g.tells g.now old blocks → StandsFor g.tells g.now new (after (reserve kind name size) blocks))
  pub slot : IfOk result (λ slot. (blocks : Blocks) → StandsFor g.tells g.now old blocks → least_free (closed kind name blocks) ≡ Some slot)
  -- there is no room exactly if the definition has none, and then nothing was done
  pub full : (blocks : Blocks) → StandsFor g.tells g.now old blocks → lacks_room result ≡ not (has_room size (doubtful_of kind name blocks) blocks)
  pub untouched : lacks_room result ≡ true → new ≡ old
  pub err : IfErr result (λ fault. IfBank fault (λ fault. (blocks : Blocks) → StandsFor g.tells g.now old blocks → StandsFor g.tells g.now new (broken (is_gate fault) (is_old fault) (reserve kind name size) blocks)))
  pub breaks : IfErr result (λ fault. IfBank fault (λ fault. (blocks : Blocks) → StandsFor g.tells g.now old blocks → CanBreak (is_gate fault) (is_old fault) (reserve kind name size) blocks))
  pub flags : IfErr result (λ fault. IfBank fault (λ fault. is_old fault ≡ true → (is_gate fault ≡ true) × IsSome (doubtful_slot kind name old.slots)))
  pub moments : g.tells_moments → (blocks : Blocks) → StandsFor g.tells g.now old blocks → LeavesOnly g.clock g.left_since old.bank new.bank (LeavesIn (reserve kind name size) blocks)
  pub steady : Steady g.size g.faults g.stops old.bank new.bank
  pub counted : ReserveCounted g.faults g.stops old.bank new.bank result
  pub bank_calls : ForSome (room_in size (without_slot (doubtful_slot kind name old.slots) old.slots)) (λ room.
      Asks g.tells_calls g.calls old.bank new.bank (is_ok result)
      (reserve_calls (doubtful_slot kind name old.slots) room.0 (record { kind = kind; offset = room.1; size = size; name = name })))

-- a copy of this image into the block of a slot
pub record Copies {B : Type 0} (g : Ghosts B) (old new : StoreParts B) (slot : ℕ) (image : List ℕ) (result : Result Unit BankFault) : Type 0 where
  pub booted : new.booted ≡ true
  pub slots : new.slots ≡ old.slots
  pub ok : OnOk result ((blocks : Blocks) → StandsFor g.tells g.now old blocks → StandsFor g.tells g.now new (after (copy slot image) blocks))
  pub err : IfErr result (λ fault. (blocks : Blocks) → StandsFor g.tells g.now old blocks → StandsFor g.tells g.now new (broken (is_gate fault) (is_old fault) (copy slot image) blocks))
  pub moments : g.tells_moments → (blocks : Blocks) → StandsFor g.tells g.now old blocks → LeavesOnly g.clock g.left_since old.bank new.bank (LeavesIn (copy slot image) blocks)
  pub bytewise : g.tells_moments → ForSome (slot_at old.slots slot) (λ s. LeavesOnly g.clock g.left_since old.bank new.bank (CopyTears slot s.block (spelled s.block.size image) (g.now old.bank)))
  pub steady : Steady g.size g.faults g.stops old.bank new.bank
  pub counted : CallCounted g.faults g.stops old.bank new.bank result
  pub bank_calls : g.tells → ForSome (slot_at old.slots slot) (λ s. Asks g.tells_calls g.calls old.bank new.bank (is_ok result) (copy_calls (g.now old.bank) slot s.block (spelled s.block.size image)))
  pub breaks : IfErr result (λ fault. (blocks : Blocks) → CanBreak (is_gate fault) (is_old fault) (copy slot image) blocks)

-- a restore of the block of a slot into so many bytes, which are these after it
pub record Restores {B : Type 0} (g : Ghosts B) (old new : StoreParts B) (slot size : ℕ) (into : List ℕ) (result : Result Unit RestoreFault) : Type 0 where
  pub booted : new.booted ≡ true
  pub slots : new.slots ≡ old.slots
  pub image : OnOk result (g.tells → held_at slot (store_of (g.now old.bank)) ≡ Some into)
  pub ok : OnOk result ((blocks : Blocks) → StandsFor g.tells g.now old blocks → StandsFor g.tells g.now new (after (restore slot (Some into)) blocks))
  -- a block whose copies were all completed comes back as the last of them, or as none if it has had none
  pub comes_back : g.tells → (blocks : Blocks) → StandsFor g.tells g.now old blocks → ForSome (stored_at blocks slot) (λ b. b.trying ≡ [] → ComesBack result b.held into)
  pub torn : IfErr result (λ fault. g.tells → ForSome (slot_at old.slots slot) (λ s. TellsTorn (g.now old.bank) slot s.block fault))
  pub why : IfErr result (SaysWhy size)
  pub err : IfErr result (λ fault. (blocks : Blocks) → StandsFor g.tells g.now old blocks → StandsFor g.tells g.now new (after_fault fault slot blocks))
  pub bytes : g.tells → g.now new.bank ≡ g.now old.bank
  pub moments : g.tells_moments → LeavesOnly g.clock g.left_since old.bank new.bank (λ image. image ≡ g.now old.bank)
  pub steady : Steady g.size g.faults g.stops old.bank new.bank
  pub counted : RestoreCounted g.faults g.stops old.bank new.bank result
  pub bank_calls : g.tells → ForSome (slot_at old.slots slot) (λ s. Asks g.tells_calls g.calls old.bank new.bank (was_read result) (restore_calls (g.now old.bank) slot s.block))

-- the block of a slot is deleted. Where the write of its gate broke off, its fault says whether the block was a doubtful one in the way of another
pub record Deletes {B : Type 0} (g : Ghosts B) (old new : StoreParts B) (slot : ℕ) (in_way : Bool) (result : Result Unit BankFault) : Type 0 where
  pub booted : new.booted ≡ true
  pub freed : OnOk result (new.slots ≡ slice_set old.slots slot None)
  -- there is no other block of its kind and name, open or in doubt, so one may be reserved then
  pub alone : OnOk result ((kind : BlockKind) (name : List ℕ) → open_slot kind name old.slots ≡ Some slot → (open_slot kind name new.slots ≡ None) × (doubtful_slot kind name new.slots ≡ None))
  pub ok : OnOk result ((blocks : Blocks) → StandsFor g.tells g.now old blocks → StandsFor g.tells g.now new (after (delete slot) blocks))
  pub err : IfErr result (λ fault. (blocks : Blocks) → StandsFor g.tells g.now old blocks → StandsFor g.tells g.now new (broken (is_gate fault) (is_old fault) (delete slot) blocks))
  pub moments : g.tells_moments → (blocks : Blocks) → StandsFor g.tells g.now old blocks → LeavesOnly g.clock g.left_since old.bank new.bank (LeavesIn (delete slot) blocks)
  pub steady : Steady g.size g.faults g.stops old.bank new.bank
  pub counted : CallCounted g.faults g.stops old.bank new.bank result
  pub bank_calls : Asks g.tells_calls g.calls old.bank new.bank (is_ok result) (delete_calls slot)
  pub flags : IfErr result (HasFlags true in_way)
