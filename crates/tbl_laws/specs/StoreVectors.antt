-- What the definitions say of sessions with resets and blocks that are written out: each line is computed by the checker.
use Rattle.std.specs.Prelude.{◌≡◌, ℕ, List, [], ◌∷◌, false, true, Some, None, refl, codes}
use Rattle.tbl_kinds.specs.Admitted.{all_admitted}
use Rattle.tbl_kinds.specs.Blocks.{empty_store}
use Rattle.tbl_kinds.specs.Places.{place}
use Rattle.tbl_kinds.specs.StoreSteps.{stored_at, new_block}
use Rattle.tbl_kinds.specs.Notes.{untouched}
use Rattle.tbl_model.specs.State.{State, no_tables, first_state}
use Rattle.tbl_model.specs.Effects.{Effect}
use Rattle.tbl_model.specs.Applications.{start_effect}
use Rattle.tbl_model.specs.Registration.{register_effect}
use Rattle.tbl_model.specs.Boots.{reset_effect}
use Rattle.tbl_model.specs.AppBlocks.{cds_register_effect, cds_copy_effect, cds_restore_effect, cds_delete_effect}
use Rattle.tbl_kinds.specs.declared.block.BlockKind.TheVariants.{App}
use Rattle.tbl_kinds.specs.declared.entry.Answer.{Answer}
use Rattle.tbl_kinds.specs.declared.note.BankNote.{BankNote}
use Rattle.tbl_kinds.specs.declared.note.Outcome.TheVariants.{Done, Failed, Stopped}
use Rattle.tbl_kinds.specs.declared.request.ResetKind.TheVariants.{Processor, PowerOn}
use Rattle.tbl_kinds.specs.declared.status.Status.{Status}
use Rattle.tbl_kinds.specs.declared.status.TheConstants.Status.{SUCCESS, INFO_STOPPED, INFO_CDS_EXISTS, ERR_IMAGE_SIZE, ERR_CDS_NOT_FOUND, ERR_CDS_FAULT, ERR_CDS_TORN, ERR_BOOT_FAULT}

abbrev pub answer_of : Effect → Answer
answer_of e = record { status = e.status; detail = e.detail }

abbrev pub plain : Status → Answer
plain status = record { status = status; detail = 0 }

-- one call of the store was done; it gave this
abbrev pub one_done : BankNote
one_done = record untouched { outcome = Done; done = 1 }

abbrev pub one_gave : List ℕ → BankNote
one_gave image = record one_done { restored = Some (record { list = image; spare = 0 }) }

-- ---- a block of 2 bytes is registered, copied into, restored and deleted

-- application 1 runs as A
abbrev pub running : State
running = (start_effect (first_state empty_store [] all_admitted) 1 (codes "A")).next

abbrev pub registered : Effect
registered = cds_register_effect running 1 (codes "X") 2 one_done

pub is_registered : answer_of registered ≡ plain SUCCESS
unfolding cds_register_effect place
is_registered = refl

pub it_takes_slot_0 : stored_at registered.next.store 0 ≡ Some (new_block false App (codes "A.X") 2 8208)
unfolding cds_register_effect place
it_takes_slot_0 = refl

-- it was never copied into, so it is torn; the check words of a bank of zeros are 0
pub never_copied : answer_of (cds_restore_effect registered.next 1 0 one_done) ≡ plain ERR_CDS_TORN
unfolding cds_register_effect cds_restore_effect place
never_copied = refl

pub one_byte_too_few : answer_of (cds_copy_effect registered.next 1 0 (1 ∷ []) one_done) ≡ plain ERR_IMAGE_SIZE
unfolding cds_register_effect cds_copy_effect place
one_byte_too_few = refl

abbrev pub copied : Effect
copied = cds_copy_effect registered.next 1 0 (1 ∷ 2 ∷ []) one_done

pub is_copied : answer_of copied ≡ plain SUCCESS
unfolding cds_register_effect cds_copy_effect place
is_copied = refl

pub it_comes_back : (cds_restore_effect copied.next 1 0 (one_gave (1 ∷ 2 ∷ []))).bytes ≡ 1 ∷ 2 ∷ []
unfolding cds_register_effect cds_copy_effect cds_restore_effect place
it_comes_back = refl

pub it_is_there : answer_of (cds_register_effect copied.next 1 (codes "X") 2 untouched) ≡ record { status = INFO_CDS_EXISTS; detail = 0 }
unfolding cds_register_effect cds_copy_effect place
it_is_there = refl

pub then_it_is_gone : answer_of (cds_restore_effect (cds_delete_effect copied.next 1 0 one_done).next 1 0 untouched) ≡ plain ERR_CDS_NOT_FOUND
unfolding cds_register_effect cds_copy_effect cds_restore_effect cds_delete_effect place
then_it_is_gone = refl

-- ---- a copy fails, or is stopped

abbrev pub failed_before : BankNote
failed_before = record untouched { outcome = Failed }

-- in the turn byte
abbrev pub failed : BankNote
failed = record untouched { outcome = Failed; gate = true }

abbrev pub was_stopped : BankNote
was_stopped = record untouched { outcome = Stopped; gate = true }

-- before its turn byte, the block holds what it held
pub it_stays : (cds_copy_effect copied.next 1 0 (3 ∷ 4 ∷ []) failed_before).next.store ≡ copied.next.store
unfolding cds_register_effect cds_copy_effect place
it_stays = refl

-- in it, the block may hold the image, or what it held before
pub copy_fails : answer_of (cds_copy_effect copied.next 1 0 (3 ∷ 4 ∷ []) failed) ≡ plain ERR_CDS_FAULT
unfolding cds_register_effect cds_copy_effect place
copy_fails = refl

pub it_is_in_doubt : stored_at (cds_copy_effect copied.next 1 0 (3 ∷ 4 ∷ []) failed).next.store 0
    ≡ Some (record (new_block false App (codes "A.X") 2 8208) { held = Some (1 ∷ 2 ∷ []); trying = (3 ∷ 4 ∷ []) ∷ [] })
unfolding cds_register_effect cds_copy_effect place
it_is_in_doubt = refl

-- a stop leaves the same block, and the service begins again, with the application
pub copy_is_stopped : answer_of (cds_copy_effect copied.next 1 0 (3 ∷ 4 ∷ []) was_stopped) ≡ plain INFO_STOPPED
unfolding cds_register_effect cds_copy_effect place
copy_is_stopped = refl

pub it_is_in_doubt_too : stored_at (cds_copy_effect copied.next 1 0 (3 ∷ 4 ∷ []) was_stopped).next.store 0 ≡ stored_at (cds_copy_effect copied.next 1 0 (3 ∷ 4 ∷ []) failed).next.store 0
unfolding cds_register_effect cds_copy_effect place
it_is_in_doubt_too = refl

pub the_application_stays : (cds_copy_effect copied.next 1 0 (3 ∷ 4 ∷ []) was_stopped).next.apps ≡ running.apps
unfolding cds_register_effect cds_copy_effect place
the_application_stays = refl

-- ---- resets

-- a table of 4 bytes is registered, and is gone after each reset
abbrev pub with_table : State
with_table = (register_effect copied.next 1 (codes "T") 4 0 None untouched).next

pub a_processor_reset_keeps_blocks : (reset_effect with_table Processor untouched).next ≡ record copied.next { tables = no_tables }
unfolding cds_register_effect cds_copy_effect register_effect place
a_processor_reset_keeps_blocks = refl

pub a_power_on_keeps_nothing : (reset_effect with_table PowerOn untouched).next ≡ first_state empty_store [] all_admitted
unfolding cds_register_effect cds_copy_effect register_effect place
a_power_on_keeps_nothing = refl

-- its boot fails, or is stopped
pub a_boot_fails : answer_of (reset_effect running Processor (record untouched { ended = true })) ≡ plain ERR_BOOT_FAULT
a_boot_fails = refl

pub a_boot_is_stopped : answer_of (reset_effect running Processor (record untouched { ended = true; stopped = true })) ≡ plain INFO_STOPPED
a_boot_is_stopped = refl
