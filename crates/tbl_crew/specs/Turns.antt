-- One turn of an actor.
use Rattle.std.specs.Prelude.{◌≡◌, ◌⊎◌, ℕ, List, [], ◌∷◌, Some, None, Ok, Err}
use Rattle.std.proofs.Common.{ℤ}
use Rattle.tbl_outside.specs.declared.bank.Bank.{Ghosts}
use Rattle.tbl_core.specs.Lent.{LastGives}
use Rattle.tbl_core.specs.Service.{CoreView, AddsOne, IsOfPin}
use Rattle.tbl_core.specs.declared.service.StepFault.{StepFault}
use Rattle.tbl_core.specs.declared.service.StepFault.TheVariants.{Memory, BootFault, BootStopped}
use Rattle.tbl_crew.specs.CrewView.{CrewView}
use Rattle.tbl_session.specs.Actors.{actor_of}
use Rattle.tbl_crew.specs.Leading.{LeadsOn}
use Rattle.tbl_crew.specs.Reads.{Lends}
use Rattle.tbl_crew.specs.Scripts.{script_of, with_script}
use Rattle.tbl_kinds.specs.Buffers.{Buffer}
use Rattle.tbl_kinds.specs.declared.request.Request.{Request}
use Rattle.tbl_registry.specs.declared.pin.Pin.{Pin}
use Rattle.tbl_crew.specs.declared.held.Turn.{Turn}
use Rattle.tbl_crew.specs.declared.held.Turn.TheVariants.{Played, Pinned, PinMemory, Ended, Done}

-- the actor's next request left its script
pub record Takes {B C : Type 0} (old new : CrewView B C) (actor : ℕ) (request : Request) : Type 0 where
  pub next : script_of old.left actor ≡ request ∷ script_of new.left actor
  pub others : new.left ≡ with_script old.left actor (script_of new.left actor)

-- what a step made of it that answered a fault: nothing, out of memory, or one entry more, the last one
abbrev pub Breaks : {B C : Type 0} → Ghosts B → CoreView B C → CoreView B C → ℕ → Request → StepFault → Type 0
Breaks g old new actor request Memory = new ≡ old
Breaks g old new actor request BootFault = AddsOne g old new (actor_of actor) request (Err BootFault)
Breaks g old new actor request BootStopped = AddsOne g old new (actor_of actor) request (Err BootStopped)

-- this turn's step answered the fault that is kept from now on
pub record EndsNow {B C : Type 0} (g : Ghosts B) (old new : CrewView B C) (actor : ℕ) : Type 0 where
  pub request : Request
  pub takes : Takes old new actor request
  pub went : old.fault ≡ None
  pub fault : StepFault
  pub keeps : new.fault ≡ Some fault
  pub breaks : Breaks g old.core new.core actor request fault

-- an earlier step answered it
pub record EndedBefore {B C : Type 0} (old new : CrewView B C) : Type 0 where
  pub fault : StepFault
  pub kept : old.fault ≡ Some fault
  pub same : new ≡ old

-- the actor's next request was played, as one entry more. If it got an address, the image is lent
pub record PlaysNext {B C : Type 0} (g : Ghosts B) (old new : CrewView B C) (actor : ℕ) (turn : Turn) : Type 0 where
  pub request : Request
  pub takes : Takes old new actor request
  pub went : old.fault ≡ None
  pub goes_on : new.fault ≡ None
  pub adds : AddsOne g old.core new.core (actor_of actor) request (Ok tt)
  pub lends : Lends new.core turn

-- the turn's Read was answered with this very buffer, if it was given bytes; a turn that has ended plays none
abbrev pub ReadsLent : {B C : Type 0} → CoreView B C → CoreView B C → Buffer → Turn → Type 0
ReadsLent old new slice Played = LastGives old.state old.entries new.entries slice
ReadsLent old new slice (Pinned pin) = LastGives old.state old.entries new.entries slice
ReadsLent old new slice PinMemory = LastGives old.state old.entries new.entries slice
ReadsLent old new slice Ended = Unit {0}
ReadsLent old new slice Done = Unit {0}

-- all of its script was played before
pub record HasDone {B C : Type 0} (old new : CrewView B C) (actor : ℕ) : Type 0 where
  pub none : script_of old.left actor ≡ []
  pub went : old.fault ≡ None
  pub same : new ≡ old

-- the one that the answer names
abbrev pub Turns : {B C : Type 0} → Ghosts B → CrewView B C → CrewView B C → ℕ → Turn → Type 0
Turns g old new actor Played = PlaysNext g old new actor Played
Turns g old new actor (Pinned pin) = PlaysNext g old new actor (Pinned pin)
Turns g old new actor PinMemory = PlaysNext g old new actor PinMemory
Turns g old new actor Ended = EndsNow g old new actor ⊎ EndedBefore old new
Turns g old new actor Done = HasDone old new actor

-- What one turn promises of the crew.
pub record TakesTurn {B C : Type 0} (g : Ghosts B) (verdict : C → List ℕ → ℤ) (old new : CrewView B C) (actor : ℕ) (turn : Turn) : Type 0 where
  -- the answer says what came of the actor's next request
  pub turns : Turns g old new actor turn
  -- whatever the crew represented, it represents still
  pub leads : LeadsOn g verdict old new
  -- what was lent stays lent
  pub pins : (pin : Pin) → IsOfPin pin old.core → IsOfPin pin new.core
