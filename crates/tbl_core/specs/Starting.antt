-- The start of a service.
use Rattle.std.specs.Prelude.{◌≡◌, ◌≢◌, ℕ, ◌≤◌, List, [], length, replicate, true, false, Option, Some, None, Result, Ok, Err}
use Rattle.tbl_kinds.specs.Admitted.{Admitted}
use Rattle.tbl_kinds.specs.Drawer.{File}
use Rattle.tbl_kinds.specs.Places.{bank_size}
use Rattle.tbl_kinds.specs.declared.request.ResetKind.TheVariants.{Processor}
use Rattle.tbl_model.specs.Counts.{no_counts}
use Rattle.tbl_model.specs.State.{Tables, no_tables, first_state}
use Rattle.tbl_outside.specs.Bank.{LeavesOnly}
use Rattle.tbl_outside.specs.Counts.{Still, RoseAlone}
use Rattle.tbl_outside.specs.declared.bank.Back.{Back}
use Rattle.tbl_outside.specs.declared.bank.Bank.{Ghosts}
use Rattle.tbl_outside.specs.declared.validator.KitEntry.{KitEntry}
use Rattle.validation.specs.Kits.{owners}
use Rattle.cds_layout.specs.Images.{store_of}
use Rattle.cds_store.specs.Moments.{ShowsIn}
use Rattle.cds_store.specs.declared.fault.BankFault.{BankFault}
use Rattle.cds_store.specs.declared.fault.BankFault.TheVariants.{Fault, Stopped as Cut}
use Rattle.tbl_core.specs.BankAsked.{BootAsks}
use Rattle.tbl_core.specs.Pins.{handle_limit}
use Rattle.tbl_core.specs.Ready.{IsAfter}
use Rattle.tbl_core.specs.Standing.{FollowsFrom, Stands}
use Rattle.tbl_core.specs.Views.{EngineView, CoreView, works_view}
use Rattle.tbl_core.specs.declared.parts.Room.{Room}
use Rattle.tbl_core.specs.declared.playing.Works.{Works}
use Rattle.tbl_core.specs.declared.service.StartFault.{StartFault}
use Rattle.tbl_core.specs.declared.service.StartFault.TheVariants.{Memory, BootFault, BootStopped}

-- ---- before the boot

-- what is taken from memory has these tables, files and places of calls
pub record Holds (tables : Tables) (files : List File) (places : List ℕ) (room : Room) : Type 0 where
  pub tables_are : room.tables ≡ tables
  pub files_are : room.drawer ≡ files
  pub places_are : room.gets.items ≡ places

-- over this bank nothing is registered, runs, is kept or pending, and nothing was played and reported
pub record IsNew {B C : Type 0} (bank : B) (kit : List (Option (KitEntry C))) (admit : Admitted) (engine : EngineView B C) : Type 0 where
  pub counts : engine.counts ≡ no_counts
  pub tables : engine.state.tables ≡ no_tables
  pub pending : engine.state.pending ≡ []
  pub drawer : engine.state.drawer ≡ []
  pub apps : engine.state.apps ≡ replicate 16 None
  pub functions : engine.state.kit ≡ kit
  pub lists : engine.state.admit ≡ admit
  pub seconds : engine.state.seconds ≡ 0
  pub sub : engine.state.sub ≡ 0
  pub live : engine.state.ended ≡ false
  pub held : engine.state.store.bank ≡ bank
  pub played : engine.played ≡ 0
  pub images : engine.images ≡ 0
  pub places : length engine.gets ≡ handle_limit

-- such works were made, or the bank is handed back
abbrev pub MakesNew : {B C E : Type 0} → B → List (Option (KitEntry C)) → Admitted → Result (Works B C) (Back E B) → Type 0
MakesNew bank kit admit (Ok works) = IsNew bank kit admit (works_view works)
MakesNew bank kit admit (Err back) = back.bank ≡ bank

-- ---- the boot

-- why a start isn't done
abbrev pub start_fault : BankFault → StartFault
start_fault (Fault gate old) = BootFault
start_fault (Cut gate old) = BootStopped

-- a start that isn't done moved the count that it reports
abbrev pub StartCounted : {B : Type 0} → Ghosts B → B → B → StartFault → Type 0
StartCounted g old new Memory = Still g.faults g.stops old new
StartCounted g old new BootFault = RoseAlone g.faults g.stops old new
StartCounted g old new BootStopped = RoseAlone g.stops g.faults old new

-- a reset at any moment in the start leaves the blocks that the bank showed
abbrev pub LeavesShown : {B : Type 0} → Ghosts B → B → B → Type 0
LeavesShown g old new = g.tells_moments → LeavesOnly g.clock g.left_since old new (ShowsIn (store_of (g.now old)))

-- ---- a service, or none

-- the engine began over this bank with these functions and lists, and has played nothing
pub record EngineBegins {B C : Type 0} (g : Ghosts B) (bank : B) (functions : List (Option (KitEntry C))) (lists : Admitted) (engine : EngineView B C) : Type 0 where
  -- the blocks are those that the bank shows
  pub stands : Stands g (first_state (store_of (g.now bank)) (owners functions) lists) [] engine
  pub after : IsAfter [] engine
  pub kit : engine.state.kit ≡ functions
  pub admit : engine.state.admit ≡ lists
  pub live : engine.state.ended ≡ false
  pub counts : Still g.faults g.stops bank engine.state.store.bank
  pub crash : LeavesShown g bank engine.state.store.bank
  -- the bank was asked what a boot asks, and no more
  pub asked : g.tells → BootAsks g (Some Processor) bank engine.state.store.bank true

-- so did the core, with an empty history
pub record CoreBegins {B C : Type 0} (g : Ghosts B) (bank : B) (functions : List (Option (KitEntry C))) (lists : Admitted) (core : CoreView B C) : Type 0 where
  pub stands : FollowsFrom g (first_state (store_of (g.now bank)) (owners functions) lists) core
  pub empty : core.entries ≡ []
  pub kit : core.state.kit ≡ functions
  pub admit : core.state.admit ≡ lists
  pub live : core.state.ended ≡ false
  pub counts : Still g.faults g.stops bank core.state.store.bank
  pub crash : LeavesShown g bank core.state.store.bank
  pub asked : g.tells → BootAsks g (Some Processor) bank core.state.store.bank true

-- there is no service, for this cause, and the bank is handed back
pub record HandsBack {B : Type 0} (g : Ghosts B) (old new : B) (fault : StartFault) : Type 0 where
  pub crash_err : LeavesShown g old new
  pub cause : StartCounted g old new fault
  pub asked_err : fault ≢ Memory → g.tells → BootAsks g (Some Processor) old new false
  -- out of memory comes before anything is asked of the bank
  pub memory : fault ≡ Memory → new ≡ old
  pub room_err : bank_size ≤ g.size new

abbrev pub StartsEngine : {B C : Type 0} → Ghosts B → B → List (Option (KitEntry C)) → Admitted → Result (EngineView B C) (Back StartFault B) → Type 0
StartsEngine g bank kit admit (Ok engine) = EngineBegins g bank kit admit engine
StartsEngine g bank kit admit (Err back) = HandsBack g bank back.bank back.cause

abbrev pub StartsCore : {B C : Type 0} → Ghosts B → B → List (Option (KitEntry C)) → Admitted → Result (CoreView B C) (Back StartFault B) → Type 0
StartsCore g bank kit admit (Ok core) = CoreBegins g bank kit admit core
StartsCore g bank kit admit (Err back) = HandsBack g bank back.bank back.cause
