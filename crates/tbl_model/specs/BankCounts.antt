-- What a history tells of its bank: how often it failed, and how often a reset came inside a write of it.
use Rattle.std.specs.Prelude.{◌≡◌, ◌≢◌, ℕ, ◌+◌, ◌==◌, List, sum_by, Bool, true, false, not, ◌&&◌, ◌||◌, if◌then◌else◌}
use Rattle.tbl_kinds.specs.declared.entry.Entry.{Entry}
use Rattle.tbl_kinds.specs.declared.note.BankNote.{BankNote}
use Rattle.tbl_kinds.specs.declared.note.Outcome.{Outcome}
use Rattle.tbl_kinds.specs.declared.note.Outcome.TheVariants.{Untouched, Done, Failed, Stopped}
use Rattle.tbl_kinds.specs.declared.status.Status.{Status}
use Rattle.tbl_kinds.specs.declared.status.TheConstants.Status.{INFO_STOPPED, ERR_CDS_FAULT, ERR_BOOT_FAULT}

-- ---- answers

-- it tells that the service was stopped, that a call of the store failed, or that a boot did
abbrev pub tells_trouble : Status → Bool
tells_trouble status = (status.0 == INFO_STOPPED.0) || ((status.0 == ERR_CDS_FAULT.0) || (status.0 == ERR_BOOT_FAULT.0))

-- ---- notes

abbrev pub failed_once : Outcome → ℕ
failed_once Failed = 1
failed_once Untouched = 0
failed_once Done = 0
failed_once Stopped = 0

abbrev pub stopped_once : Outcome → ℕ
stopped_once Stopped = 1
stopped_once Untouched = 0
stopped_once Done = 0
stopped_once Failed = 0

-- the faults and the stops that a note tells of: that of a call, and that of a boot
abbrev pub faults_in : BankNote → ℕ
faults_in note = failed_once note.outcome + (if note.ended && not note.stopped then 1 else 0)

abbrev pub stops_in : BankNote → ℕ
stops_in note = stopped_once note.outcome + (if note.ended && note.stopped then 1 else 0)

abbrev pub fault_count : List Entry → ℕ
fault_count entries = sum_by (λ (e : Entry). faults_in e.given.note) entries

abbrev pub stop_count : List Entry → ℕ
stop_count entries = sum_by (λ (e : Entry). stops_in e.given.note) entries

-- ---- causes

-- such an answer has its cause in the note
pub record HasCause (status : Status) (note : BankNote) : Type 0 where
  pub stop : status ≡ INFO_STOPPED → stops_in note ≢ 0
  pub fault : status ≡ ERR_CDS_FAULT → note.outcome ≡ Failed
  pub boot : status ≡ ERR_BOOT_FAULT → (note.ended ≡ true) × (note.stopped ≡ false)
