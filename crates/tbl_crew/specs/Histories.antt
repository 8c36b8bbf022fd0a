-- What a crew promises of its history.
use Rattle.std.specs.Prelude.{◌≡◌, ℕ, ◌≤◌, List, ◌++◌, length, Option, Some, None}
use Rattle.std.proofs.Common.{ℤ}
use Rattle.tbl_outside.specs.declared.bank.Bank.{Ghosts}
use Rattle.tbl_core.specs.Service.{CoreView}
use Rattle.tbl_core.specs.declared.service.StepFault.{StepFault}
use Rattle.tbl_crew.specs.CrewView.{TellsFault}
use Rattle.tbl_crew.specs.Leading.{LacksAfter}
use Rattle.tbl_session.specs.Openings.{Opening}
use Rattle.tbl_session.specs.Actors.{part, HaveActors}
use Rattle.tbl_crew.specs.Scripts.{script_of}
use Rattle.tbl_session.specs.Served.{IsServed}
use Rattle.tbl_history.specs.Trouble.{IsCaused}
use Rattle.tbl_kinds.specs.Records.{record_limit}
use Rattle.tbl_kinds.specs.Transcript.{pairs_of}
use Rattle.tbl_kinds.specs.declared.entry.Entry.{Entry}
use Rattle.tbl_kinds.specs.declared.request.Request.{Request}

-- what an actor played is its whole script, in order; if a step answered a fault, the beginning of it
abbrev pub HasPlayed : Option StepFault → List Request → List Request → Type 0
HasPlayed None script played = played ≡ script
HasPlayed (Some fault) script played = (rest : List Request) × (script ≡ played ++ rest)

-- so it is of each actor, and no entry is of any other
pub record HavePlayed (fault : Option StepFault) (scripts : List (List Request)) (entries : List Entry) : Type 0 where
  pub parts : (actor : ℕ) → HasPlayed fault (script_of scripts actor) (part actor (pairs_of entries))
  pub actors : HaveActors (pairs_of entries)

-- Whoever played, and in which order their turns came, one history was served. For each actor its requests are its script, in order, each
-- once. If a step answered a fault, they are the beginning of it, and if that was out of memory, a request is left. It has no more entries
-- than a session may have, and the service has ended if the last of them says so (`caused`).
pub record OneHistory {B C : Type 0} (g : Ghosts B) (verdict : C → List ℕ → ℤ) (o : Opening B C) (scripts : List (List Request)) (fault : Option StepFault) (core : CoreView B C) : Type 0 where
  pub served : IsServed g verdict o core.state.store.bank core.entries
  pub played : HavePlayed fault scripts core.entries
  pub lacks : LacksAfter fault scripts core.entries
  pub few : length core.entries ≤ record_limit
  pub caused : IsCaused g o.bank core
  pub ended : TellsFault fault core
