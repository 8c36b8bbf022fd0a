-- A request that calls the store, and the boot after a stop of it.
use Rattle.std.specs.Prelude.{◌≡◌, ℕ, ◌+◌, ◌≤◌, List, [], ◌∷◌, take, not, ◌&&◌, Option, Some, None, Bool, true, false, Result, Ok, Err}
use Rattle.tbl_model.specs.State.{State}
use Rattle.tbl_model.specs.Effects as model
use Rattle.tbl_model.specs.Boots.{boot}
use Rattle.tbl_model.specs.BankCounts.{faults_in, stops_in, HasCause}
use Rattle.tbl_model.specs.StoreNotes.{Ends, MayGoOn, Tells}
use Rattle.tbl_model.specs.StoreUse.{left_by}
use Rattle.cds_store.specs.StoreBlocks.{StoreParts, StandsFor}
use Rattle.cds_store.specs.declared.slot.Slot.{Slot}
use Rattle.tbl_kinds.specs.StoreSteps.{same_kind}
use Rattle.tbl_kinds.specs.declared.block.BlockKind.TheVariants.{App}
use Rattle.tbl_model.specs.AppBlocks.{is_named_by}
use Rattle.tbl_kinds.specs.Blocks.{Store}
use Rattle.tbl_session.specs.Crashes.{DuringCalls, writes}
use Rattle.tbl_session.specs.Restores.{RestoresHeld}
use Rattle.tbl_outside.specs.Bank.{LeavesOnly}
use Rattle.tbl_outside.specs.Counts.{RoseBy}
use Rattle.tbl_model.specs.Telemetry.{Question}
use Rattle.cds_layout.specs.Images.{store_of}
use Rattle.std.specs.Global.{Box}
use Rattle.tbl_kinds.specs.Buffers.{Buffer}
use Rattle.tbl_kinds.specs.Notes.{untouched, restored_image}
use Rattle.tbl_kinds.specs.declared.note.Outside.{Outside}
use Rattle.tbl_kinds.specs.declared.note.BankNote.{BankNote}
use Rattle.tbl_kinds.specs.declared.note.Outcome.{Outcome}
use Rattle.tbl_kinds.specs.declared.note.Outcome.TheVariants.{Untouched, Done, Failed, Stopped}
use Rattle.tbl_kinds.specs.declared.request.ResetKind.TheVariants.{Processor}
use Rattle.tbl_kinds.specs.declared.status.TheConstants.Status.{SUCCESS, INFO_STOPPED, ERR_CDS_FAULT, ERR_CDS_TORN, ERR_CDS_NO_ROOM}
use Rattle.tbl_kinds.specs.declared.status.Status.{Status}
use Rattle.tbl_model.specs.declared.telemetry.Shown.TheVariants.{Nothing}
use Rattle.cds_store.specs.declared.fault.BankFault.{BankFault}
use Rattle.cds_store.specs.declared.fault.BankFault.TheVariants.{Fault, Stopped as Cut}
use Rattle.cds_store.specs.declared.fault.ReserveFault.{ReserveFault}
use Rattle.cds_store.specs.declared.fault.ReserveFault.TheVariants.{NoRoom, Bank}
use Rattle.request_effects.specs.Effects.{Effect, IsEffect, IsWithin, uncalled}
use Rattle.store_requests.specs.BankCalls.{AsksIn}
use Rattle.store_requests.specs.declared.notes.RestoreNote.{RestoreNote}
use Rattle.tbl_outside.specs.declared.bank.Bank.{Ghosts}

-- ---- the boot after it

-- no boot was noted
pub record NoBoot (note : BankNote) : Type 0 where
  pub ended : note.ended ≡ false
  pub stopped : note.stopped ≡ false
  pub found : note.found ≡ []

-- what the calls left, with what a boot after them reported
abbrev pub with_boot : Bool → Bool → List ℕ → BankNote → BankNote
with_boot ended stopped found note = record note { ended = ended; stopped = stopped; found = found }

-- the service boots only after a stop
abbrev pub boots_after : Outcome → BankNote → State → State
boots_after Stopped note s = boot Processor note s
boots_after Untouched note s = s
boots_after Done note s = s
boots_after Failed note s = s

-- ---- counts

-- the counts of the bank moved as the note says: one that it names rose by so many at least, and one that it doesn't name didn't move
pub record Troubled {B : Type 0} (g : Ghosts B) (old new : B) (note : BankNote) : Type 0 where
  pub fault_count : g.faults old ≤ g.faults new
  pub stop_count : g.stops old ≤ g.stops new
  pub fault : RoseBy (faults_in note) (g.faults old) (g.faults new)
  pub stop : RoseBy (stops_in note) (g.stops old) (g.stops new)
  pub no_fault : faults_in note ≡ 0 → g.faults new ≡ g.faults old
  pub no_stop : stops_in note ≡ 0 → g.stops new ≡ g.stops old

-- ---- the calls

-- it has no call yet
abbrev pub IsFresh : Box Outside → Type 0
IsFresh outside = outside.value.note ≡ untouched

-- one call more is done
abbrev pub done_note : BankNote → BankNote
done_note note = record note { outcome = Done; done = note.done + 1 }

-- the next call broke off
abbrev pub broken_note : BankFault → BankNote → BankNote
broken_note (Fault gate old) note = record note { outcome = Failed; gate = gate; old = old }
broken_note (Cut gate old) note = record note { outcome = Stopped; gate = gate; old = old }

abbrev pub broken_status : BankFault → Status
broken_status (Fault gate old) = ERR_CDS_FAULT
broken_status (Cut gate old) = INFO_STOPPED

-- no packet reports more than the answer, and no function was asked
pub record IsSilent (done : Effect) : Type 0 where
  pub table : done.table ≡ None
  pub events : done.events ≡ []
  pub shown : done.shown ≡ Nothing
  pub notice : done.notice ≡ None
  pub verdicts : done.verdicts ≡ None ∷ None ∷ []

-- it answers this, with this note, and no packet reports more
pub record IsTold (done : Effect) (status : Status) (detail : ℕ) (bytes : List ℕ) (note : BankNote) : Type 0 where
  pub status_is : done.answer.status ≡ status
  pub detail_is : done.answer.detail ≡ detail
  pub bytes_are : done.bytes ≡ bytes
  pub note_is : done.note ≡ note
  pub silent : IsSilent done

-- the reply's bytes, if it has any
abbrev pub bytes_in : Option Buffer → List ℕ
bytes_in None = []
bytes_in (Some bytes) = bytes.list

-- whether a slot has an open block of an application of this name
abbrev pub is_own_slot : List ℕ → Option Slot → Bool
is_own_slot app_name None = false
is_own_slot app_name (Some b) = same_kind b.block.kind App && not b.doubtful && is_named_by app_name b.block.name

-- how a call ended, with which the request ends
abbrev pub call_note : Result Unit BankFault → BankNote → BankNote
call_note (Ok x) note = done_note note
call_note (Err fault) note = broken_note fault note

abbrev pub call_status : Result Unit BankFault → Status
call_status (Ok x) = SUCCESS
call_status (Err fault) = broken_status fault

-- ---- a restore, which is the only call of its request

-- nothing was restored yet, and there is room for an image of this size
pub record CanKeep (size : ℕ) (room : RestoreNote) : Type 0 where
  pub fresh : IsFresh room.note
  pub empty : room.kept.list ≡ []
  pub spare : size ≤ room.kept.spare

-- it gave this image
pub record NotesImage (image : List ℕ) (note : BankNote) : Type 0 where
  pub done : note ≡ record (done_note untouched) { restored = note.restored }
  pub gave : restored_image note ≡ Some image

-- its block is torn, with these check words
abbrev pub torn_note : ℕ → BankNote
torn_note words = record (done_note untouched) { torn = words }

-- the image is the reply
pub record IsGiven (done : Effect) (image : List ℕ) : Type 0 where
  pub told : IsTold done SUCCESS 0 image done.note
  pub noted : NotesImage image done.note

-- a restore that gave no image: what was noted of its block, or that the bank failed
abbrev pub IsUngiven : Effect → Option ℕ → Type 0
IsUngiven done (Some told) = IsTold done ERR_CDS_TORN told [] (torn_note told)
IsUngiven done None = IsTold done ERR_CDS_FAULT 0 [] (broken_note (Fault false false) untouched)

-- ---- a reservation

-- its note says that there is no room by no call
abbrev pub reserve_note : Result ℕ ReserveFault → BankNote → BankNote
reserve_note (Ok slot) note = done_note note
reserve_note (Err NoRoom) note = note
reserve_note (Err (Bank fault)) note = broken_note fault note

abbrev pub reserve_status : Result ℕ ReserveFault → Status
reserve_status (Ok slot) = SUCCESS
reserve_status (Err NoRoom) = ERR_CDS_NO_ROOM
reserve_status (Err (Bank fault)) = broken_status fault

abbrev pub reserve_detail : Result ℕ ReserveFault → ℕ
reserve_detail (Ok slot) = slot
reserve_detail (Err fault) = 0

-- its reply isn't too long and no packet reports it, and no function was asked. Its note and its answer have their causes in the counts of
-- the bank
pub record IsCall {B : Type 0} (g : Ghosts B) (old new : StoreParts B) (done : Effect) : Type 0 where
  pub within : IsWithin 0 done
  pub verdicts : done.verdicts ≡ None ∷ None ∷ []
  pub no_boot : NoBoot done.note
  pub stopped : done.note.outcome ≡ Stopped → done.answer.status ≡ INFO_STOPPED
  pub cause : HasCause done.answer.status done.note
  pub trouble : Troubled g old.bank new.bank done.note
  pub booted : new.booted ≡ true

-- what a reset may leave from the one moment to the other, if the bank shows its moments
abbrev pub Leaving : {B : Type 0} → Ghosts B → StoreParts B → StoreParts B → (Store → Type 0) → Type 0
Leaving g old new IsLeft = g.tells_moments → LeavesOnly g.clock g.left_since old.bank new.bank (λ image. IsLeft (store_of image))

-- what a request did before it called the store: the state that it made, and what it asked of validation functions
pub record BeforeCalls : Type 0 where
  pub state : State
  pub questions : List Question

abbrev pub unasked : State → BeforeCalls
unasked s = record { state = s; questions = [] }

-- what this effect says
abbrev pub done_first : model.Effect → BeforeCalls
done_first e = record { state = e.next; questions = e.questions }

-- a request that did this before it called the store has this effect, if the service has this note after it; before a boot the store
-- represents the blocks that the calls leave, and the note is one that they may leave. A reset in one of those that write leaves what those
-- before it and this one made of the blocks, and a restore is never stopped. The bank was asked what its calls ask, once
pub record IsCalled {B : Type 0} (g : Ghosts B) (old kept : StoreParts B) (first : BeforeCalls) (done : Effect) (note : BankNote) (e : model.Effect) : Type 0 where
  pub blocks : StandsFor g.tells g.now kept (left_by e.calls note first.state.store)
  pub effect : IsEffect done first.questions (boots_after note.outcome note (record first.state { store = left_by e.calls note first.state.store })) (uncalled e)
  pub ends : Ends note.outcome e.calls first.state.store note
  pub gave : MayGoOn (take note.done e.calls) first.state.store
  pub says : Tells (take note.done e.calls) note
  pub writing : note.outcome ≡ Stopped → writes e.calls ≡ e.calls
  pub moments : Leaving g old kept (DuringCalls (writes e.calls) first.state.store)
  pub asked : AsksIn g old kept done.note.outcome e.calls
  pub held : RestoresHeld (g.now old.bank) e.calls first.state.store note

-- this holds whatever a boot after the calls reports
abbrev pub CallsAfter : {B : Type 0} → Ghosts B → StoreParts B → StoreParts B → BeforeCalls → Effect → (BankNote → model.Effect) → Type 0
CallsAfter g old kept first done means = (ended stopped : Bool) (found : List ℕ)
    → IsCalled g old kept first done (with_boot ended stopped found done.note) (means (with_boot ended stopped found done.note))

-- the same if no validation function is asked
abbrev pub Calls : {B : Type 0} → Ghosts B → StoreParts B → StoreParts B → State → Effect → (BankNote → model.Effect) → Type 0
Calls g old kept s done means = CallsAfter g old kept (unasked s) done means
