-- What a crew represents: its opening, and the scripts that its actors were given.
use Rattle.std.specs.Prelude.{◌≡◌, ℕ, List, ◌∷◌, ◌++◌, Option, Some, None}
use Rattle.std.proofs.Common.{ℤ}
use Rattle.tbl_kinds.specs.Transcript.{pairs_of}
use Rattle.tbl_outside.specs.declared.bank.Bank.{Ghosts}
use Rattle.tbl_session.specs.Actors.{part, HaveActors}
use Rattle.tbl_session.specs.Openings.{Opening}
use Rattle.tbl_history.specs.Serving.{Serves}
use Rattle.tbl_core.specs.declared.service.StepFault.{StepFault}
use Rattle.tbl_core.specs.declared.service.StepFault.TheVariants.{Memory, BootFault, BootStopped}
use Rattle.tbl_crew.specs.CrewView.{CrewView}
use Rattle.tbl_crew.specs.Scripts.{script_of}
use Rattle.tbl_kinds.specs.declared.entry.Entry.{Entry}
use Rattle.tbl_kinds.specs.declared.request.Request.{Request}

-- what an actor played, and after it what is left to it, is its script; after a fault what it played is the beginning of it
abbrev pub IsPlayed : Option StepFault → List Request → List Request → List Request → Type 0
IsPlayed None script played left = script ≡ played ++ left
IsPlayed (Some fault) script played left = (rest : List Request) × (script ≡ played ++ rest)

-- so it is of each actor
abbrev pub ArePlayed : Option StepFault → List (List Request) → List Entry → List (List Request) → Type 0
ArePlayed fault scripts entries left = (actor : ℕ) → IsPlayed fault (script_of scripts actor) (part actor (pairs_of entries)) (script_of left actor)

-- some actor's next request wasn't played
abbrev pub LacksOne : List (List Request) → List Entry → Type 0
LacksOne scripts entries = (actor : ℕ) × (request : Request) × (rest : List Request) × (script_of scripts actor ≡ part actor (pairs_of entries) ++ request ∷ rest)

-- out of memory is reported only if a request wasn't played for it
abbrev pub LacksAfter : Option StepFault → List (List Request) → List Entry → Type 0
LacksAfter None scripts entries = Unit {0}
LacksAfter (Some Memory) scripts entries = LacksOne scripts entries
LacksAfter (Some BootFault) scripts entries = Unit {0}
LacksAfter (Some BootStopped) scripts entries = Unit {0}

-- The core keeps to all that the opening promises; and each actor's requests in its history are its script, up to where it was played, and
-- no entry is of any other actor.
pub record LeadsFrom {B C : Type 0} (g : Ghosts B) (verdict : C → List ℕ → ℤ) (o : Opening B C) (scripts : List (List Request)) (h : CrewView B C) : Type 0 where
  pub serves : Serves g verdict o h.core
  pub played : ArePlayed h.fault scripts h.core.entries h.left
  pub lacks : LacksAfter h.fault scripts h.core.entries
  pub actors : HaveActors (pairs_of h.core.entries)

-- whatever the old one represents, the new one does
abbrev pub LeadsOn : {B C : Type 0} → Ghosts B → (C → List ℕ → ℤ) → CrewView B C → CrewView B C → Type 0
LeadsOn {B} {C} g verdict old new = (o : Opening B C) (scripts : List (List Request)) → LeadsFrom g verdict o scripts old → LeadsFrom g verdict o scripts new
