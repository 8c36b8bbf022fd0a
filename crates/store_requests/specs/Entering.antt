-- How a critical table is entered into the registry, by how the calls for its block ended. The answer gives its handle.
use Rattle.std.specs.Prelude.{◌≡◌, ℕ, List, [], false, Option, Some, None, Result, Ok, Err}
use Rattle.tbl_kinds.specs.Notes.{untouched}
use Rattle.tbl_kinds.specs.declared.note.BankNote.{BankNote}
use Rattle.tbl_kinds.specs.declared.status.Status.{Status}
use Rattle.tbl_kinds.specs.declared.status.TheConstants.Status.{SUCCESS, INFO_STOPPED, INFO_RECOVERED_TBL, WARN_NOT_CRITICAL}
use Rattle.tbl_model.specs.State.{Table, Tables}
use Rattle.tbl_model.specs.TableSteps.{with_first, uncritical, added}
use Rattle.cds_layout.specs.Restores.{words}
use Rattle.cds_layout.specs.declared.blocks.RestoreFault.{RestoreFault}
use Rattle.cds_store.specs.declared.fault.BankFault.{BankFault}
use Rattle.cds_store.specs.declared.fault.BankFault.TheVariants.{Fault, Stopped as Cut}
use Rattle.cds_store.specs.declared.fault.ReserveFault.{ReserveFault}
use Rattle.cds_store.specs.declared.fault.ReserveFault.TheVariants.{NoRoom, Bank}
use Rattle.sharing.specs.Registering.{next_row, next_handle}
use Rattle.store_requests.specs.Called.{IsTold, NotesImage, done_note, broken_note, torn_note}
use Rattle.request_effects.specs.Effects.{Effect}

-- this table was registered next, and the answer is this status, with this note
pub record Enters (old new : Tables) (t : Table) (done : Effect) (status : Status) (note : BankNote) : Type 0 where
  pub told : IsTold done status (next_handle old) [] note
  pub tables : new ≡ added (next_row old) t old

-- it isn't critical
abbrev pub EntersUncritical : Tables → Tables → Table → Effect → BankNote → Type 0
EntersUncritical old new t done note = Enters old new (uncritical t) done WARN_NOT_CRITICAL note

-- a call for its block broke off: the table isn't critical, or it isn't registered, as the service begins again
abbrev pub EntersBroken : Tables → Tables → Table → Effect → BankFault → BankNote → Type 0
EntersBroken old new t done (Fault gate prior) note = EntersUncritical old new t done (broken_note (Fault gate prior) note)
EntersBroken old new t done (Cut gate prior) note = IsTold done INFO_STOPPED 0 [] (broken_note (Cut gate prior) note) × (new ≡ old)

-- it begins with this image of its block, which the note has
pub record EntersRecovered (old new : Tables) (t : Table) (done : Effect) (image : List ℕ) : Type 0 where
  pub enters : Enters old new (with_first (Some image) t) done INFO_RECOVERED_TBL done.note
  pub noted : NotesImage image done.note

-- by what was noted of its block, which gave no image
abbrev pub EntersWithout : Tables → Tables → Table → Effect → Option ℕ → Type 0
EntersWithout old new t done (Some told) = Enters old new t done SUCCESS (torn_note told)
EntersWithout old new t done None = EntersBroken old new t done (Fault false false) untouched

-- by how the restore of its block ended, which was into this image
abbrev pub EntersRestored : Tables → Tables → Table → Effect → Result Unit RestoreFault → List ℕ → Type 0
EntersRestored old new t done (Ok x) image = EntersRecovered old new t done image
EntersRestored old new t done (Err fault) image = EntersWithout old new t done (words fault)

-- by how the reservation of its block ended, which is the last call
abbrev pub EntersReserved : Tables → Tables → Table → Effect → Result ℕ ReserveFault → BankNote → Type 0
EntersReserved old new t done (Ok slot) note = Enters old new t done SUCCESS (done_note note)
EntersReserved old new t done (Err NoRoom) note = EntersUncritical old new t done note
EntersReserved old new t done (Err (Bank fault)) note = EntersBroken old new t done fault note
