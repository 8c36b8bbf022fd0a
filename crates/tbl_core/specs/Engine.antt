-- What one step of the engine does, over every past that it may have played. The past is a list of entries that only contracts see.
use Rattle.std.specs.Prelude.{◌≡◌, ℕ, List, [], ◌∷◌, ◌++◌, ◌<◌, Some, Result}
use Rattle.tbl_kinds.specs.declared.entry.Entry.{Entry}
use Rattle.tbl_kinds.specs.declared.request.Actor.{Actor}
use Rattle.tbl_kinds.specs.declared.request.Request.{Request}
use Rattle.tbl_registry.specs.Lending.{pinned_image}
use Rattle.tbl_registry.specs.declared.pin.Pin.{Pin}
use Rattle.tbl_core.specs.Pins.{handle_limit, place_in}
use Rattle.tbl_core.specs.Stepped.{Stepped}
use Rattle.tbl_core.specs.Service.{EngineView, core_of, IsAfter, PinsOnward}
use Rattle.tbl_core.specs.declared.service.StepFault.{StepFault}
use Rattle.tbl_outside.specs.declared.bank.Bank.{Ghosts}
use Rattle.tbl_outside.specs.declared.validator.Validator.{Ghosts as ValidatorGhosts}

-- whatever opening the engine represented, and whatever it has played since: with this entry after that past it is as after a step of a core
pub record Steps {B C : Type 0} (g : Ghosts B) (v : ValidatorGhosts C) (old new : EngineView B C) (asked : Actor × Request) (e : Entry) (result : Result Unit StepFault) : Type 0 where
  pub after : (past : List Entry) → IsAfter past old → IsAfter (past ++ e ∷ []) new
  pub stepped : (past : List Entry) → Stepped g v (core_of past old) (core_of (past ++ e ∷ []) new) asked e result
  -- what a handle pins after it, it pinned before, or it got the address in it
  pub pins : (past : List Entry) → IsAfter past old → PinsOnward (core_of past old) (core_of (past ++ e ∷ []) new)

-- a log has one entry more, and this holds of it
abbrev pub Enters : (Entry → Type 0) → List Entry → List Entry → Type 0
Enters Is log entries = (e : Entry) × (entries ≡ log ++ e ∷ []) × Is e

-- as long as the handle of a lent image pins by the call that it was lent for, it pins this image
pub record MayStillPin {B C : Type 0} (pin : Pin) (engine : EngineView B C) : Type 0 where
  pub within : pin.handle < handle_limit
  pub image : (image : List ℕ) → pinned_image pin.handle engine.state.tables ≡ Some image → place_in engine.gets pin.handle ≡ pin.place → image ≡ pin.bytes
