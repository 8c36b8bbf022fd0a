-- What one turn under the lock does, and what a thread knows of its actors' scripts.
use Rattle.std.specs.Prelude.{◌≡◌, ◌≢◌, ◌⊎◌, ℕ, ◌+◌, ◌<◌, List, [], ◌∷◌, ◌++◌, length, All, Option, Some, None}
use Rattle.std.proofs.Common.{ℤ}
use mathlib.Core.Option.{some}
use lib.ListN.{get_elem?}
use Rattle.tbl_outside.specs.declared.bank.Bank.{Ghosts}
use Rattle.tbl_core.specs.declared.service.StepFault.{StepFault}
use Rattle.tbl_crew.specs.CrewView.{CrewView}
use Rattle.tbl_crew.specs.Leading.{LeadsOn}
use Rattle.tbl_crew.specs.Scripts.{script_of}
use Rattle.tbl_crew.specs.Turns.{Turns, ReadsLent}
use Rattle.tbl_kinds.specs.Buffers.{Buffer}
use Rattle.tbl_core.specs.Lent.{StillPins}
use Rattle.tbl_kinds.specs.declared.entry.Entry.{Entry}
use Rattle.tbl_session.specs.Actors.{actor_of}
use Rattle.turn_lock.specs.Turns.{Beside}
use Rattle.tbl_crew.specs.Reads.{plan_of}
use Rattle.tbl_core.specs.Service.{IsOfPin}
use Rattle.tbl_registry.specs.declared.pin.Pin.{Pin}
use Rattle.tbl_crew.specs.declared.held.ReadPlan.{ReadPlan}
use Rattle.tbl_crew.specs.declared.held.Turn.{Turn}
use Rattle.tbl_crew.specs.declared.held.Turn.TheVariants.{Played, Pinned, PinMemory, Ended, Done}

-- it has these entries, or one more, which is of this actor
abbrev pub Grows : List Entry → ℕ → List Entry → Type 0
Grows old actor new = (new ≡ old) ⊎ ((e : Entry) × (new ≡ old ++ e ∷ []) × (e.actor ≡ actor_of actor))

-- it leads on, leaves what the others have still to ask and what was lent, adds no entry except one of the actor, forgets no fault, and
-- changes nothing after one
pub record Moves {B C : Type 0} (g : Ghosts B) (verdict : C → List ℕ → ℤ) (old : CrewView B C) (actor : ℕ) (new : CrewView B C) : Type 0 where
  pub leads : LeadsOn g verdict old new
  pub others : (other : ℕ) → other ≢ actor → script_of new.left other ≡ script_of old.left other
  pub went : new.fault ≡ None → old.fault ≡ None
  pub pins : (pin : Pin) → IsOfPin pin old.core → IsOfPin pin new.core
  pub grows : Grows old.core.entries actor new.core.entries
  pub stops : (cause : StepFault) → old.fault ≡ Some cause → new ≡ old

-- What playing the rest of a script without the lock promises.
pub record PlaysRest {B C : Type 0} (g : Ghosts B) (verdict : C → List ℕ → ℤ) (old new : CrewView B C) : Type 0 where
  -- whatever the crew represented, it represents still
  pub leads : LeadsOn g verdict old new
  -- it forgets no fault
  pub went_on : new.fault ≡ None → old.fault ≡ None
  -- no script gets a further request
  pub kept : (other : ℕ) → script_of old.left other ≡ [] → script_of new.left other ≡ []

-- since the actor saw the crew, others had turns, and then it had this one
pub record HasTurned {B C : Type 0} (g : Ghosts B) (verdict : C → List ℕ → ℤ) (actor : ℕ) (turn : Turn) (old new : CrewView B C) : Type 0 where
  pub taken : CrewView B C
  pub beside : Beside (Moves g verdict) actor old taken
  pub turns : Turns g taken new actor turn
  pub moves : Moves g verdict taken actor new

-- so it is by what the actor saw last, before and after it
abbrev pub HaveTurned : {B C : Type 0} → Ghosts B → (C → List ℕ → ℤ) → ℕ → Turn → List (CrewView B C) → List (CrewView B C) → Type 0
HaveTurned g verdict actor turn [] news = ⊥
HaveTurned g verdict actor turn (old ∷ olds) [] = ⊥
HaveTurned g verdict actor turn (old ∷ olds) (new ∷ news) = HasTurned g verdict actor turn old new

-- a turn with a Read: the image that was lent, what was taken of it before the turn, and what came of it
pub record LentRead : Type 0 where
  pub pin : Pin
  pub slice : Buffer
  pub turn : Turn

-- if the image's handle still pinned by the call that it was lent for as this turn came, the Read was answered with what was taken before
pub record HasReadLent {B C : Type 0} (g : Ghosts B) (verdict : C → List ℕ → ℤ) (actor : ℕ) (read : LentRead) (old new : CrewView B C) : Type 0 where
  pub taken : CrewView B C
  pub beside : Beside (Moves g verdict) actor old taken
  pub lent : StillPins read.pin taken.core.gets → ReadsLent taken.core new.core read.slice read.turn

abbrev pub HaveReadLent : {B C : Type 0} → Ghosts B → (C → List ℕ → ℤ) → ℕ → LentRead → List (CrewView B C) → List (CrewView B C) → Type 0
HaveReadLent g verdict actor read [] news = ⊥
HaveReadLent g verdict actor read (old ∷ olds) [] = ⊥
HaveReadLent g verdict actor read (old ∷ olds) (new ∷ news) = HasReadLent g verdict actor read old new

-- the actor's script was played to its end, or a step answered a fault
abbrev pub HasEnded : {B C : Type 0} → CrewView B C → ℕ → Type 0
HasEnded h actor = h.fault ≡ None → script_of h.left actor ≡ []

-- so it is of the first actors, so many
abbrev pub AllEnded : {B C : Type 0} → ℕ → CrewView B C → Type 0
AllEnded count h = (actor : ℕ) → actor < count → HasEnded h actor

-- so it is of these actors, from one on, by what each saw last
abbrev pub HaveEnded : {B C : Type 0} → ℕ → List (CrewView B C) → Type 0
HaveEnded {B} {C} from seen = (i : ℕ) (h : CrewView B C) → get_elem? seen i ≡ some h → HasEnded h (from + i)

-- each of them has so many requests to ask, by what it saw last
abbrev pub HaveLeft : {B C : Type 0} → (ℕ → ℕ) → ℕ → List (CrewView B C) → Type 0
HaveLeft {B} {C} count from seen = (i : ℕ) (h : CrewView B C) → get_elem? seen i ≡ some h → length (script_of h.left (from + i)) ≡ count (from + i)

-- ---- what a worker knows between its turns

-- each of these images was lent, and this is what the actor reads next, if it is known
pub record IsKnown {B C : Type 0} (pins : List Pin) (plan : Option ReadPlan) (actor : ℕ) (h : CrewView B C) : Type 0 where
  pub each : All (λ (pin : Pin). IsOfPin pin h.core) pins
  pub next : (read : ReadPlan) → plan ≡ Some read → plan_of (script_of h.left actor) ≡ Some read

-- so it is by what the actor saw last
abbrev pub AreKnown : {B C : Type 0} → List Pin → Option ReadPlan → ℕ → List (CrewView B C) → Type 0
AreKnown pins plan actor [] = ⊥
AreKnown pins plan actor (h ∷ hs) = IsKnown pins plan actor h

-- how many requests the actor has left after a turn, of so many before it: one fewer, or it has ended. What was lent in it is known
abbrev pub IsTurned : {B C : Type 0} → ℕ → ℕ → Turn → CrewView B C → Type 0
IsTurned count actor Played h = length (script_of h.left actor) + 1 ≡ count
IsTurned count actor (Pinned pin) h = (length (script_of h.left actor) + 1 ≡ count) × IsOfPin pin h.core
IsTurned count actor PinMemory h = length (script_of h.left actor) + 1 ≡ count
IsTurned count actor Ended h = HasEnded h actor
IsTurned count actor Done h = HasEnded h actor

abbrev pub AreTurned : {B C : Type 0} → ℕ → ℕ → Turn → List (CrewView B C) → Type 0
AreTurned count actor turn [] = ⊥
AreTurned count actor turn (h ∷ hs) = IsTurned count actor turn h
