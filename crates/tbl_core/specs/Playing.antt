-- One entry more: what it says of the engine and of pins.
use Rattle.std.specs.Prelude.{◌≡◌, ◌⊎◌, ℕ, ◌<◌, List, [], ◌∷◌, ◌++◌, length, true, Some, Result, Err, slice_get}
use Rattle.tbl_session.specs.Crashes.{UnderWay, all_calls_in}
use Rattle.tbl_model.specs.History.{Run, onward, IsAnswered}
use Rattle.tbl_kinds.specs.declared.entry.Entry.{Entry}
use Rattle.tbl_kinds.specs.declared.request.Actor.{Actor}
use Rattle.tbl_kinds.specs.declared.request.Request.{Request}
use Rattle.tbl_core.specs.Pins.{handle_limit, place_in, gets_address, IsGetAt}
use Rattle.tbl_registry.specs.Lending.{pins_image, pinned_image}
use Rattle.tbl_registry.specs.declared.pin.Pin.{Pin}
use Rattle.tbl_model.specs.Telemetry.{Question}
use Rattle.tbl_model.specs.BankCounts.{HasCause}
use Rattle.store_requests.specs.Called.{Troubled, Leaving}
use Rattle.tbl_session.specs.Restores.{RestoresHeld}
use Rattle.tbl_core.specs.Ended.{OnPlayed, session_end}
use Rattle.tbl_core.specs.BankAsked.{AsksOnce}
use Rattle.tbl_core.specs.Verdicts.{Judged}
use Rattle.tbl_session.specs.Verdicts.{questions_in}
use Rattle.tbl_core.specs.Log.{IsSmall}
use Rattle.tbl_core.specs.declared.service.StepFault.{StepFault}
use Rattle.tbl_core.specs.declared.service.StepFault.TheVariants.{Memory}
use Rattle.tbl_outside.specs.declared.bank.Bank.{Ghosts}
use Rattle.tbl_outside.specs.declared.validator.Validator.{Ghosts as ValidatorGhosts}
use Rattle.tbl_core.specs.Views.{EngineView, CoreView, core_of}
use Rattle.tbl_core.specs.Standing.{Shows}
use Rattle.tbl_core.specs.Ready.{IsReady, IsAfter}

-- whatever image a handle pins after an entry it pinned before, by the call at the same place, or the entry is that call; and by an
-- entry that got an address its handle pins, from its place on
pub record PinsOnward {B C : Type 0} (old new : CoreView B C) : Type 0 where
  pub each : (handle : ℕ) (image : List ℕ) → handle < handle_limit → pinned_image handle new.state.tables ≡ Some image
      → (place_in new.gets handle ≡ length old.entries) ⊎ ((place_in new.gets handle ≡ place_in old.gets handle) × (pinned_image handle old.state.tables ≡ Some image))
  pub got : (handle : ℕ) (e : Entry) → slice_get new.entries (length old.entries) ≡ Some e → gets_address handle e.request e.reply.status ≡ true
      → (pins_image handle new.state.tables ≡ true) × (handle < handle_limit → place_in new.gets handle ≡ length old.entries)

-- one request was played, and this is its entry: it is answered rightly whatever run the engine represented
pub record Plays {B C : Type 0} (g : Ghosts B) (v : ValidatorGhosts C) (old new : EngineView B C) (asked : Actor × Request) (entry : Entry) (result : Result Unit StepFault) : Type 0 where
  pub actor_is : entry.actor ≡ asked.0
  pub request_is : entry.request ≡ asked.1
  pub answered : g.tells → (r : Run) → Shows g old.state old.counts r → IsAnswered r entry
  pub shows : g.tells → (r : Run) → Shows g old.state old.counts r → Shows g new.state new.counts (onward r entry)
  pub ended : new.state.ended ≡ entry.given.note.ended
  pub ends : result ≡ session_end entry.given.note
  pub ready : IsReady v new
  pub judged : g.tells → (r : Run) → Shows g old.state old.counts r → Judged v old.state.kit new.state.kit (questions_in r entry) entry.given.verdicts
  pub kit : (questions : List Question) × Judged v old.state.kit new.state.kit questions entry.given.verdicts
  pub gave : g.tells → (r : Run) → Shows g old.state old.counts r → RestoresHeld (g.now old.state.store.bank) (all_calls_in r entry) r.state.store entry.given.note
  pub bank_asked : g.tells → (r : Run) → Shows g old.state old.counts r → AsksOnce g old.state.store new.state.store r entry
  pub trouble : Troubled g old.state.store.bank new.state.store.bank entry.given.note
  pub cause : HasCause entry.reply.status entry.given.note
  pub moments : g.tells → (r : Run) → Shows g old.state old.counts r → Leaving g old.state.store new.state.store (UnderWay r entry)
  pub small : IsSmall entry
  pub after : (past : List Entry) → IsAfter past old → IsAfter (past ++ entry ∷ []) new
  pub pins : (past : List Entry) → IsAfter past old → PinsOnward (core_of past old) (core_of (past ++ entry ∷ []) new)

-- the request of the entry before was played so; or memory ran out
pub record HasPlays {B C : Type 0} (g : Ghosts B) (v : ValidatorGhosts C) (old new : EngineView B C) (begun entry : Entry) (result : Result Unit StepFault) : Type 0 where
  pub plays : OnPlayed result (Plays g v old new (begun.actor, begun.request) entry result)
  pub err : result ≡ Err Memory → new ≡ old

-- the pin was lent for an entry that got an address by its handle, and as long as the handle pins by that entry, the pin has its image
pub record IsOfPin {B C : Type 0} (pin : Pin) (core : CoreView B C) : Type 0 where
  pub within : pin.handle < handle_limit
  pub got : IsGetAt core.entries pin.place pin.handle
  pub image : (image : List ℕ) → pinned_image pin.handle core.state.tables ≡ Some image → place_in core.gets pin.handle ≡ pin.place → image ≡ pin.bytes

-- one entry more, which has its causes: the counts of the bank moved as its note says, and also if its answer reports trouble
pub record AddsOne {B C : Type 0} (g : Ghosts B) (old new : CoreView B C) (actor : Actor) (request : Request) (result : Result Unit StepFault) : Type 0 where
  pub entry : Entry
  pub actor_is : entry.actor ≡ actor
  pub request_is : entry.request ≡ request
  pub added : new.entries ≡ old.entries ++ entry ∷ []
  pub ended : new.state.ended ≡ entry.given.note.ended
  pub ends : result ≡ session_end entry.given.note
  pub trouble : Troubled g old.state.store.bank new.state.store.bank entry.given.note
  pub cause : HasCause entry.reply.status entry.given.note
