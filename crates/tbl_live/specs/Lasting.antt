-- A core that keeps only the last entry.
use Rattle.std.specs.Prelude.{◌≡◌, ◌≤◌, List, [], ◌∷◌, ◌++◌, map, false, Option, Some, Result, Ok, Err, OnOk, IfSome}
use Rattle.tbl_kinds.specs.Places.{bank_size}
use Rattle.tbl_kinds.specs.Requests.{Fits}
use Rattle.tbl_kinds.specs.declared.admit.Admit.{Admit}
use Rattle.tbl_kinds.specs.declared.entry.Entry.{Entry}
use Rattle.tbl_model.specs.State.{first_state}
use Rattle.tbl_outside.specs.Bank.{LeavesOnly}
use Rattle.tbl_outside.specs.Counts.{Still}
use Rattle.tbl_outside.specs.declared.bank.Back.{Back}
use Rattle.tbl_outside.specs.declared.bank.Bank.{Ghosts}
use Rattle.tbl_outside.specs.declared.validator.KitEntry.{KitEntry}
use Rattle.tbl_outside.specs.declared.validator.Validator.{Ghosts as ValidatorGhosts}
use Rattle.cds_layout.specs.Images.{store_of}
use Rattle.cds_store.specs.Moments.{ShowsIn}
use Rattle.validation.specs.Kits.{owners}
use Rattle.tbl_core.specs.Answers.{IsBegun}
use Rattle.tbl_core.specs.Ended.{OnPlayed}
use Rattle.tbl_core.specs.Engine.{Steps, MayStillPin}
use Rattle.tbl_core.specs.Lent.{StillPins, GivesLent}
use Rattle.tbl_core.specs.Pins.{IsSliceOf}
use Rattle.tbl_core.specs.Service.{CoreView, EngineView, IsAfter, core_of, HasRoom, FollowsFrom, StartCounted}
use Rattle.tbl_core.specs.Log.{IsSmall}
use Rattle.tbl_core.specs.declared.service.StartFault.{StartFault}
use Rattle.tbl_core.specs.declared.service.StartFault.TheVariants.{Memory as NoMemory}
use Rattle.tbl_core.specs.declared.service.StepFault.{StepFault}
use Rattle.tbl_core.specs.declared.service.StepFault.TheVariants.{Memory as StepMemory}
use Rattle.tbl_live.specs.declared.cores.Taken.{Taken}

-- all that it has played, which nobody keeps, and the engine
pub record LastingView (B C : Type 0) : Type 0 where
  pub past : List Entry
  pub engine : EngineView B C

abbrev pub lasting_view : {B C : Type 0} → List (Entry × Unit {0}) → EngineView B C → LastingView B C
lasting_view items engine = record { past = map (λ item. item.0) items; engine = engine }

-- as a core that had kept it
abbrev pub core_in : {B C : Type 0} → LastingView B C → CoreView B C
core_in it = core_of it.past it.engine

-- the engine has played just this, and this is the last entry of it
pub record IsLasting {B C : Type 0} (last : Option Entry) (it : LastingView B C) : Type 0 where
  pub after : IsAfter it.past it.engine
  pub ends : (before : List Entry) (e : Entry) → it.past ≡ before ++ e ∷ [] → (last ≡ Some e) × IsSmall e

-- ---- its start

-- a reset at any moment since it was this bank leaves the blocks that it showed
abbrev pub LeavesShown : {B : Type 0} → Ghosts B → B → B → Type 0
LeavesShown g bank bank_then = g.tells_moments → LeavesOnly g.clock g.left_since bank bank_then (ShowsIn (store_of (g.now bank)))

-- A core at its start, over this bank.
pub record Starts {B C : Type 0} (g : Ghosts B) (bank : B) (given : List (Option (KitEntry C))) (admitted : Admit) (core : CoreView B C) : Type 0 where
  -- its blocks are those that the bank shows
  pub stands : FollowsFrom g (first_state (store_of (g.now bank)) (owners given) admitted) core
  -- it has these validation functions
  pub kit : core.state.kit ≡ given
  -- and takes table files from these spacecraft and processors
  pub admit : core.state.admit ≡ admitted
  -- it has played nothing
  pub empty : core.entries ≡ []
  -- it plays requests
  pub live : core.state.ended ≡ false
  -- nothing went wrong at the bank
  pub counts : Still g.faults g.stops bank core.state.store.bank
  -- a reset at any moment in it leaves the blocks that the bank showed
  pub crash : LeavesShown g bank core.state.store.bank

-- The bank as it is handed back, when there is no core.
pub record HandsBack {B : Type 0} (g : Ghosts B) (bank : B) (back : Back StartFault B) : Type 0 where
  -- a reset at any moment left the blocks that it showed
  pub crash : LeavesShown g bank back.bank
  -- the fault says what went wrong at it
  pub cause : StartCounted g bank back.bank back.cause
  -- out of memory comes before anything is asked of it
  pub memory : back.cause ≡ NoMemory → back.bank ≡ bank
  -- it has room for a further service
  pub room : bank_size ≤ g.size back.bank

-- ---- a step of its engine

-- Before the engine plays the request of an entry.
pub record MayPlayOn {B C : Type 0} (engine : EngineView B C) (e : Entry) (ahead : Option Taken) : Type 0 where
  -- the entry isn't answered yet
  pub begun : IsBegun e
  -- its request may come from its actor
  pub fits : Fits e.actor e.request
  -- no boot has ended the service
  pub live : engine.state.ended ≡ false
  -- there is room for it
  pub room : HasRoom engine e.request
  -- what was taken of a lent image are the bytes that it asks for
  pub taken : IfSome ahead (λ (it : Taken). MayStillPin it.pin.now engine × IsSliceOf it.pin.now e.request it.slice.list)

-- if the image's handle still pins by the call that it was lent for, what was taken is the answer
abbrev pub EngineGives : {B C : Type 0} → EngineView B C → Entry → Result Unit StepFault → Taken → Type 0
EngineGives old e done taken = StillPins taken.pin.now old.gets → (done ≡ Ok tt) × GivesLent old.state taken.slice e

-- Once it has played it, by the engine and the entry before it and after it.
pub record PlaysOn {B C : Type 0} (g : Ghosts B) (v : ValidatorGhosts C) (ahead : Option Taken) (old new : EngineView B C × Entry) (done : Result Unit StepFault) : Type 0 where
  -- over any bank: what was taken is what is answered, or the Read is refused
  pub lent : IfSome ahead (EngineGives old.0 new.1 done)
  -- over every past it was as a step of a core
  pub steps : OnPlayed done (Steps g v old.0 new.0 (old.1.actor, old.1.request) new.1 done)
  -- it goes on, unless a fault is answered
  pub live : OnOk done (new.0.state.ended ≡ false)
  -- out of memory changes nothing
  pub err : done ≡ Err StepMemory → new.0 ≡ old.0
