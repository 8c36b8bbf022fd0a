-- An entry that an engine is given to play, and how that ends; and so of a core, which keeps it.
use Rattle.std.specs.Prelude.{◌≡◌, ◌≤◌, ℕ, List, All, false, Option, Result, Ok, Err, OnOk, IfOk, IfSome, is_some}
use Rattle.tbl_kinds.specs.Buffers.{Buffer}
use Rattle.tbl_kinds.specs.Requests.{Fits}
use Rattle.tbl_kinds.specs.declared.entry.Entry.{Entry}
use Rattle.tbl_kinds.specs.declared.request.Actor.{Actor}
use Rattle.tbl_kinds.specs.declared.request.Request.{Request}
use Rattle.tbl_outside.specs.declared.bank.Bank.{Ghosts}
use Rattle.tbl_outside.specs.declared.validator.Validator.{Ghosts as ValidatorGhosts}
use Rattle.tbl_registry.specs.Lending.{pins_image, lent_at}
use Rattle.tbl_registry.specs.declared.pin.Pin.{Pin}
use Rattle.tbl_core.specs.Answers.{IsBegun}
use Rattle.tbl_core.specs.Ended.{OnPlayed}
use Rattle.tbl_core.specs.Engine.{Steps}
use Rattle.tbl_core.specs.Lent.{StillPins, GivesLent, LastGives}
use Rattle.tbl_core.specs.Log.{IsSmall}
use Rattle.tbl_core.specs.Pins.{place_in}
use Rattle.tbl_core.specs.Playing.{IsOfPin, PinsOnward}
use Rattle.tbl_core.specs.Ready.{HasRoom, IsAfter}
use Rattle.tbl_core.specs.Stepped.{Stepped}
use Rattle.tbl_core.specs.Views.{EngineView, CoreView, core_of}
use Rattle.tbl_core.specs.declared.service.StepFault.{StepFault}
use Rattle.tbl_core.specs.declared.service.StepFault.TheVariants.{Memory}

-- ---- an engine

-- this is an entry for the request of this actor, and the engine counts no more images than requests
pub record IsBegunFor {B C : Type 0} (who : Actor) (asked : Request) (engine : EngineView B C) (e : Entry) : Type 0 where
  pub begun : IsBegun e
  pub actor : e.actor ≡ who
  pub request : e.request ≡ asked
  pub few : engine.images ≤ engine.played

-- nothing is answered to the entry's request yet, its actor may make it, the service goes on, and there is room for it
pub record MayBePlayed {B C : Type 0} (engine : EngineView B C) (e : Entry) : Type 0 where
  pub begun : IsBegun e
  pub fits : Fits e.actor e.request
  pub live : engine.state.ended ≡ false
  pub room : HasRoom engine e.request

-- the request of the entry before it was played, and this is the entry after it; or memory ran out
pub record HasPlayed {B C : Type 0} (g : Ghosts B) (v : ValidatorGhosts C) (old new : EngineView B C) (entries : Entry × Entry) (result : Result Unit StepFault) : Type 0 where
  pub steps : OnPlayed result (Steps g v old new (entries.0.actor, entries.0.request) entries.1 result)
  pub live : OnOk result (new.state.ended ≡ false)
  pub err : result ≡ Err Memory → new ≡ old

-- so was a Read for which these bytes were taken of this image: over any bank they are what is answered, or the Read is refused
pub record HasPlayedLent {B C : Type 0} (g : Ghosts B) (v : ValidatorGhosts C) (old new : EngineView B C) (entries : Entry × Entry) (taken : Pin × Buffer) (result : Result Unit StepFault) : Type 0 where
  pub steps : OnPlayed result (Steps g v old new (entries.0.actor, entries.0.request) entries.1 result)
  pub lent : StillPins taken.0 old.gets → (result ≡ Ok tt) × GivesLent old.state taken.1 entries.1
  pub live : OnOk result (new.state.ended ≡ false)
  pub err : result ≡ Err Memory → new ≡ old

-- the image that a handle pins is lent, for every past that the engine may have played
pub record LendsAny {B C E : Type 0} (handle : ℕ) (engine : EngineView B C) (result : Result (Option Pin) E) : Type 0 where
  pub lent : IfOk result (λ lent. lent ≡ lent_at handle (place_in engine.gets handle) engine.state.tables)
  pub none : IfOk result (λ lent. is_some lent ≡ pins_image handle engine.state.tables)
  pub pin : IfOk result (λ lent. IfSome lent (λ (pin : Pin). (past : List Entry) → IsAfter past engine → IsOfPin pin (core_of past engine)))

-- ---- a core

-- its history is what its engine has played, and each entry is small
pub record IsKept {B C : Type 0} (entries : List Entry) (engine : EngineView B C) : Type 0 where
  pub after : IsAfter entries engine
  pub small : All IsSmall entries

-- one request was played, and its entry was added; or memory ran out
pub record Advances {B C : Type 0} (g : Ghosts B) (v : ValidatorGhosts C) (old new : CoreView B C) (asked : Actor × Request) (result : Result Unit StepFault) : Type 0 where
  pub stepped : OnPlayed result ((e : Entry) × Stepped g v old new asked e result)
  -- what a handle pins after it, it pinned before, or it got the address in it
  pub pins : OnPlayed result (PinsOnward old new)
  pub live : OnOk result (new.state.ended ≡ false)
  pub err : result ≡ Err Memory → new ≡ old

-- so was a Read for which these bytes were taken of this image
pub record AdvancesLent {B C : Type 0} (g : Ghosts B) (v : ValidatorGhosts C) (old new : CoreView B C) (asked : Actor × Request) (taken : Pin × Buffer) (result : Result Unit StepFault) : Type 0 where
  -- over any bank: what was handed in is what is answered, or the Read is refused
  pub lent : StillPins taken.0 old.gets → OnPlayed result (LastGives old.state old.entries new.entries taken.1)
  pub stepped : OnPlayed result ((e : Entry) × Stepped g v old new asked e result)
  pub pins : OnPlayed result (PinsOnward old new)
  pub live : OnOk result (new.state.ended ≡ false)
  pub err : result ≡ Err Memory → new ≡ old

-- the image that a handle pins is lent, with the place of the call that got its address
pub record Lends {B C E : Type 0} (handle : ℕ) (core : CoreView B C) (result : Result (Option Pin) E) : Type 0 where
  pub lent : IfOk result (λ lent. lent ≡ lent_at handle (place_in core.gets handle) core.state.tables)
  pub none : IfOk result (λ lent. is_some lent ≡ pins_image handle core.state.tables)
  pub pin : IfOk result (λ lent. IfSome lent (λ (pin : Pin). IsOfPin pin core))
