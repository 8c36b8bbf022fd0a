-- The boot after a request that was stopped, and how its step ends.
use Rattle.std.specs.Prelude.{◌≡◌, ◌≢◌, ℕ, List, [], Bool, Result, Ok, Err, if◌then◌else◌}
use Rattle.tbl_kinds.specs.Notes.{untouched}
use Rattle.tbl_kinds.specs.declared.note.BankNote.{BankNote}
use Rattle.tbl_kinds.specs.declared.note.Outcome.{Outcome}
use Rattle.tbl_kinds.specs.declared.note.Outcome.TheVariants.{Untouched, Done, Failed, Stopped}
use Rattle.store_requests.specs.Called.{with_boot}
use Rattle.tbl_core.specs.declared.service.StepFault.{StepFault}
use Rattle.tbl_core.specs.declared.service.StepFault.TheVariants.{Memory, BootFault, BootStopped}

-- a boot may have added to the note only if a call was stopped
pub record Follows (called note : BankNote) : Type 0 where
  pub ended : Bool
  pub stopped : Bool
  pub found : List ℕ
  pub is : note ≡ with_boot ended stopped found called
  pub same : called.outcome ≢ Stopped → note ≡ called

-- what a boot by itself reported, if there was one
abbrev pub boot_only : Outcome → BankNote → BankNote
boot_only Stopped note = with_boot note.ended note.stopped [] untouched
boot_only Untouched note = untouched
boot_only Done note = untouched
boot_only Failed note = untouched

-- how a step ends after which the service has this note
abbrev pub session_end : BankNote → Result Unit StepFault
session_end note = if note.ended then (if note.stopped then Err BootStopped else Err BootFault) else Ok tt

-- a request was played, also if a boot in it was the last
abbrev pub OnPlayed : Result Unit StepFault → Type 0 → Type 0
OnPlayed (Ok x) P = P
OnPlayed (Err Memory) P = Unit {0}
OnPlayed (Err BootFault) P = P
OnPlayed (Err BootStopped) P = P
