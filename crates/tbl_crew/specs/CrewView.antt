-- What the lock holds: the core, why it plays no further request, and what each actor still has to request.
use Rattle.std.specs.Prelude.{◌≡◌, ◌+◌, ◌≤◌, List, length, Option, Some, None, true, false}
use Rattle.tbl_kinds.specs.Records.{record_limit}
use Rattle.tbl_core.specs.Service.{CoreView}
use Rattle.tbl_core.specs.declared.service.StepFault.{StepFault}
use Rattle.tbl_core.specs.declared.service.StepFault.TheVariants.{Memory, BootFault, BootStopped}
use Rattle.tbl_session.specs.Actors.{actor_count}
use Rattle.tbl_crew.specs.Scripts.{request_count, AllFit}
use Rattle.tbl_session.specs.Trouble.{EndsInBoot}
use Rattle.tbl_kinds.specs.declared.request.Request.{Request}

pub record CrewView (B C : Type 0) : Type 0 where
  pub core : CoreView B C
  pub fault : Option StepFault
  pub left : List (List Request)

-- a crew of these parts
abbrev pub crew_of : {B C : Type 0} → CoreView B C → Option StepFault → List (List Request) → CrewView B C
crew_of core fault left = record { core = core; fault = fault; left = left }

-- the last entry has a boot that ended the service; else the service goes on
abbrev pub TellsFault : {B C : Type 0} → Option StepFault → CoreView B C → Type 0
TellsFault None core = core.state.ended ≡ false
TellsFault (Some Memory) core = core.state.ended ≡ false
TellsFault (Some BootFault) core = EndsInBoot false core.entries
TellsFault (Some BootStopped) core = EndsInBoot true core.entries

-- what is left may be played: each request may come from its actor, and with those that were played they are no more than a
-- session may have
pub record MayGoOn {B C : Type 0} (h : CrewView B C) : Type 0 where
  pub actors : length h.left ≡ actor_count
  pub fit : AllFit h.left
  pub few : length h.core.entries + request_count h.left ≤ record_limit
  pub fault : TellsFault h.fault h.core
