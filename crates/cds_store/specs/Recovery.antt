-- What comes back of a block.
use Rattle.std.specs.Prelude.{◌≡◌, ◌≢◌, ℕ, ◌≤◌, List, [], ◌++◌, true, false, Option, Some, None}
use Rattle.std.specs.Option.{ForSome, option_map_or}
use Rattle.tbl_kinds.specs.Blocks.{Stored, Store as Blocks}
use Rattle.tbl_kinds.specs.Places.{bank_size}
use Rattle.tbl_kinds.specs.StoreSteps.{Shows, stored_at, open_of, MayGive}
use Rattle.tbl_kinds.specs.declared.request.ResetKind.TheVariants.{Processor}
use Rattle.tbl_outside.specs.BankCalls.{BankCall, Asks}
use Rattle.tbl_outside.specs.Bank.{LeavesOnly}
use Rattle.tbl_outside.specs.declared.bank.Bank.{Ghosts}
use Rattle.tbl_outside.specs.Counts.{Still, RoseAlone}
use Rattle.cds_layout.specs.Images.{store_of}
use Rattle.cds_layout.specs.Order.{boot_calls, restore_calls}
use Rattle.cds_store.specs.Moments.{ShowsIn}
use Rattle.cds_store.specs.StoreBlocks.{StoreParts, StandsFor}
use Rattle.cds_store.specs.declared.fault.BankFault.{BankFault}
use Rattle.cds_store.specs.declared.fault.BankFault.TheVariants.{Fault as BankFails, Stopped as Cut}
use Rattle.cds_store.specs.declared.recovery.RecoverFault.{RecoverFault}
use Rattle.cds_store.specs.declared.recovery.RecoverFault.TheVariants.{Fault, Stopped, Memory}
use Rattle.tbl_kinds.specs.declared.block.BlockKind.{BlockKind}

-- if a block of this kind and name is open, this is what it holds: its last completed image, or none if it has had none. If copies of it
-- broke off at their turn byte since, it holds that or the image of one of these
abbrev pub Recovers : BlockKind → List ℕ → Blocks → Option (List ℕ) → Type 0
Recovers kind name blocks image = (slot : ℕ) → open_of kind name blocks ≡ Some slot → ForSome (stored_at blocks slot) (λ b. MayGive b image)

-- what was counted if nothing is recovered: only a fault or only a stop, or nothing if memory ran out
abbrev pub RecoverCounted : {B : Type 0} → (B → ℕ) → (B → ℕ) → B → B → RecoverFault → Type 0
RecoverCounted faults stops old new Fault = RoseAlone faults stops old new
RecoverCounted faults stops old new Stopped = RoseAlone stops faults old new
RecoverCounted faults stops old new Memory = Still faults stops old new

-- after the boot, what the open block of this kind and name holds is read, if there is one
abbrev pub open_reads : BlockKind → List ℕ → Blocks → List ℕ → List BankCall
open_reads kind name blocks bytes = option_map_or (λ (slot : ℕ). option_map_or (λ (b : Stored). restore_calls bytes slot b.block) (stored_at blocks slot) []) (open_of kind name blocks) []

-- what a recovery asks of its bank, whose bytes are these before it and after it
abbrev pub recover_calls : BlockKind → List ℕ → List ℕ → List ℕ → List BankCall
recover_calls kind name before after = boot_calls Processor before ++ open_reads kind name (store_of before) after

-- the same blocks are shown, as they are by what a reset left meanwhile
pub record ShowsOn {B : Type 0} (g : Ghosts B) (old new : B) : Type 0 where
  pub left : g.tells → ShowsIn (store_of (g.now old)) (g.now new)
  pub moments : g.tells_moments → LeavesOnly g.clock g.left_since old new (ShowsIn (store_of (g.now old)))

-- why a boot that broke off recovers nothing
abbrev pub cause_of : BankFault → RecoverFault
cause_of (BankFails gate old) = Fault
cause_of (Cut gate old) = Stopped

-- the bank that comes back shows the same blocks, as does what a reset left meanwhile, and a further store has room in it
pub record ShowsStill {B : Type 0} (g : Ghosts B) (old new : B) : Type 0 where
  pub left : g.tells → ShowsIn (store_of (g.now old)) (g.now new)
  pub moments : g.tells_moments → LeavesOnly g.clock g.left_since old new (ShowsIn (store_of (g.now old)))
  pub room : bank_size ≤ g.size new

-- of a booted store, the open block of this kind and name was restored, and gave this image, or none
pub record Restored {B : Type 0} (g : Ghosts B) (old new : StoreParts B) (kind : BlockKind) (name : List ℕ) (given : Option (List ℕ)) : Type 0 where
  pub image : g.tells → (blocks : Blocks) → StandsFor g.tells g.now old blocks → Recovers kind name blocks given
  pub none : (blocks : Blocks) → StandsFor g.tells g.now old blocks → open_of kind name blocks ≡ None → given ≡ None
  pub still : Still g.faults g.stops old.bank new.bank
  pub bank_calls : g.tells → (blocks : Blocks) → StandsFor g.tells g.now old blocks → Asks g.tells_calls g.calls old.bank new.bank true (open_reads kind name blocks (g.now old.bank))

-- the restore broke off, or memory ran out before it
pub record NotRestored {B : Type 0} (g : Ghosts B) (old new : StoreParts B) (kind : BlockKind) (name : List ℕ) (cause : RecoverFault) : Type 0 where
  pub fault : RecoverCounted g.faults g.stops old.bank new.bank cause
  pub bank_calls : (cause ≢ Memory) → g.tells → (blocks : Blocks) → StandsFor g.tells g.now old blocks → Asks g.tells_calls g.calls old.bank new.bank false (open_reads kind name blocks (g.now old.bank))

-- what came back of the block of this kind and name: this image, or none
pub record Recovered {B : Type 0} (g : Ghosts B) (old new : B) (kind : BlockKind) (name : List ℕ) (given : Option (List ℕ)) : Type 0 where
  pub image : g.tells → (blocks : Blocks) → Shows blocks (store_of (g.now old)) → Recovers kind name blocks given
  pub none : g.tells → open_of kind name (store_of (g.now old)) ≡ None → given ≡ None
  pub still : Still g.faults g.stops old new
  -- the bank is booted; then only what the block holds is read, once
  pub bank_calls : g.tells → Asks g.tells_calls g.calls old new true (recover_calls kind name (g.now old) (g.now new))

-- the block wasn't looked at, or not to its end
pub record NotRecovered {B : Type 0} (g : Ghosts B) (old new : B) (kind : BlockKind) (name : List ℕ) (cause : RecoverFault) : Type 0 where
  pub fault : RecoverCounted g.faults g.stops old new cause
  pub bank_calls : (cause ≢ Memory) → g.tells → Asks g.tells_calls g.calls old new false (recover_calls kind name (g.now old) (g.now new))
