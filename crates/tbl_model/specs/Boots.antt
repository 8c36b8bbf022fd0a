-- Boots: what the service keeps where it begins anew, and how a request ends in which it does.
use Rattle.std.specs.Prelude.{ℕ, List, [], replicate, if◌then◌else◌, Option, None}
use Rattle.tbl_kinds.specs.Admitted.{Admitted}
use Rattle.tbl_kinds.specs.Blocks.{Store}
use Rattle.tbl_kinds.specs.StoreSteps.{booted}
use Rattle.tbl_kinds.specs.Notes.{untouched}
use Rattle.tbl_model.specs.State.{State, first_state}
use Rattle.tbl_model.specs.Effects.{Effect, answered}
use Rattle.tbl_kinds.specs.declared.note.BankNote.{BankNote}
use Rattle.tbl_kinds.specs.declared.request.ResetKind.{ResetKind}
use Rattle.tbl_kinds.specs.declared.request.ResetKind.TheVariants.{Processor, PowerOn}
use Rattle.tbl_kinds.specs.declared.status.Status.{Status}
use Rattle.tbl_kinds.specs.declared.status.TheConstants.Status.{SUCCESS, INFO_STOPPED, ERR_BOOT_FAULT}

-- ---- what a boot leaves

-- a reset of the processor keeps this, and a power-on doesn't
abbrev pub if_processor : {X : Type 0} → ResetKind → X → X → X
if_processor Processor kept gone = kept
if_processor PowerOn kept gone = gone

-- the blocks: as after a boot that is done. One that failed or was stopped leaves them to the next
abbrev pub blocks_after : ResetKind → BankNote → Store → Store
blocks_after kind note store = if note.ended then store else booted kind note.found store

-- the service begins anew, without tables, handles, pins, loads, dumps and pending validations. A reset of the processor keeps files,
-- applications and blocks, and a power-on none of them; time, kit and admitted identifiers stay. Where the boot failed or was stopped, the service has ended
abbrev pub boot : ResetKind → BankNote → State → State
boot kind note s = record (first_state (blocks_after kind note s.store) s.kit s.admit) {
  drawer = if_processor kind s.drawer [];
  apps = if_processor kind s.apps (replicate 16 None);
  seconds = s.seconds;
  sub = s.sub;
  ended = note.ended;
}

-- how a session begins: with a boot of the processor over the blocks that the bank shows, where nothing runs and no file is there
abbrev pub session_start : Store → List (Option ℕ) → Admitted → State
session_start shown kit admit = boot Processor untouched (first_state shown kit admit)

-- ---- how a request ends in one

-- a Reset's boot is done, or it was stopped, or it failed
abbrev pub reset_status : BankNote → Status
reset_status note = if note.ended then (if note.stopped then INFO_STOPPED else ERR_BOOT_FAULT) else SUCCESS

abbrev pub reset_effect : State → ResetKind → BankNote → Effect
reset_effect s kind note = record (answered s (reset_status note) 0) { next = boot kind note s }

-- a request was stopped: nothing of its effect is told but what was done before, and the service boots at once, over the state that it left
abbrev pub stopped : BankNote → Effect → Effect
stopped note e = record (answered (boot Processor note e.next) INFO_STOPPED 0) { events = e.events; images = e.images; questions = e.questions; calls = e.calls }
