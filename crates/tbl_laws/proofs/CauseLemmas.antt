-- The causes of answers that report the bank's trouble, and which answers need none.
use Rattle.std.proofs.Common.{◌≡◌, ℕ, ◌+◌, List, Bool, true, false, not, ◌||◌, cond, eqb, Option, Some, None, refl, sym, ap, ◌∙◌, arith}
use Rattle.std.specs.Option.{option_map_or}
use Rattle.std.proofs.lemmas.Bool.{eq-eqb}
use Rattle.tbl_model.specs.State.{Table, Tables}
use Rattle.tbl_model.specs.Tables.{is_quiet}
use Rattle.tbl_model.specs.TableSteps.{locker}
use Rattle.tbl_model.specs.Pending.{is_pending}
use Rattle.tbl_model.specs.Management.{manage_answer, pending_status}
use Rattle.tbl_model.specs.BankCounts.{tells_trouble, stopped_once, stops_in, HasCause}
use Rattle.tbl_model.specs.Boots.{reset_status}
use Rattle.tbl_kinds.specs.declared.entry.Answer.{Answer}
use Rattle.tbl_kinds.specs.declared.note.BankNote.{BankNote}
use Rattle.tbl_kinds.specs.declared.note.Outcome.TheVariants.{Stopped, Failed}
use Rattle.tbl_kinds.specs.declared.status.Status.{Status}
use Rattle.tbl_kinds.specs.declared.status.TheConstants.Status.{SUCCESS, INFO_UPDATED, INFO_TABLE_LOCKED, INFO_STOPPED, INFO_UPDATE_PENDING, INFO_VALIDATION_PENDING, INFO_DUMP_PENDING, ERR_VALIDATION_FAILED, ERR_CDS_FAULT, ERR_BOOT_FAULT}

-- an answer that reports no trouble needs none
pub harmless : (status : Status) (note : BankNote) → tells_trouble status ≡ false → HasCause status note
harmless status note none = record {
  stop = λ is. absurd (cc (ap tells_trouble is, none));
  fault = λ is. absurd (cc (ap tells_trouble is, none));
  boot = λ is. absurd (cc (ap tells_trouble is, none));
}

-- two statuses of different numbers
apart : (a b : Status) → eqb a.0 b.0 ≡ false → a ≡ b → ⊥
apart a b other is = cc (sym other ∙ ap (λ (s : Status). eqb s.0 b.0) is ∙ eq-eqb b.0 b.0 refl)

-- a Reset is answered by how its boot ended
pub reset_caused : (note : BankNote) → HasCause (reset_status note) note
reset_caused note = by note.ended note.stopped refl refl where
  by : (ended stopped : Bool) → note.ended ≡ ended → note.stopped ≡ stopped → HasCause (cond ended (cond stopped INFO_STOPPED ERR_BOOT_FAULT) SUCCESS) note
  by false stopped ended is = harmless SUCCESS note refl
  by true true ended stopped = record {
    stop = λ is none. let many : stops_in note ≡ stopped_once note.outcome + 1 = rw (ended, stopped) refl in omega (arith, many, none);
    fault = λ is. absurd (apart INFO_STOPPED ERR_CDS_FAULT refl is);
    boot = λ is. absurd (apart INFO_STOPPED ERR_BOOT_FAULT refl is);
  }
  by true false ended stopped = record {
    stop = λ is. absurd (apart ERR_BOOT_FAULT INFO_STOPPED refl is);
    fault = λ is. absurd (apart ERR_BOOT_FAULT ERR_CDS_FAULT refl is);
    boot = λ is. (ended, stopped);
  }

pub updated : (b : Bool) → tells_trouble (cond b INFO_UPDATED SUCCESS) ≡ false
updated true = refl
updated false = refl

pub judged : (b : Bool) → tells_trouble (cond b SUCCESS ERR_VALIDATION_FAILED) ≡ false
judged true = refl
judged false = refl

pub managed : (tables : Tables) (row : ℕ) (t : Table) → tells_trouble (manage_answer tables row t).status ≡ false
managed tables row t = by t.activation (locker tables row t) where
  by : (b : Bool) (lock : Option ℕ) → tells_trouble (cond {A = Answer} (not b) (record { status = SUCCESS; detail = 0 }) (option_map_or (λ handle. record { status = INFO_TABLE_LOCKED; detail = handle }) lock (record { status = INFO_UPDATED; detail = 0 }))).status ≡ false
  by false lock = refl
  by true None = refl
  by true (Some handle) = refl

pub pends : (pending : List (ℕ × Bool)) (row : ℕ) (t : Table) → tells_trouble (pending_status pending row t) ≡ false
pends pending row t = by (is_pending row true pending || is_pending row false pending) t.activation (is_quiet t.dump) where
  by : (validation activation idle : Bool) → tells_trouble (cond validation INFO_VALIDATION_PENDING (cond activation INFO_UPDATE_PENDING (cond (not idle) INFO_DUMP_PENDING SUCCESS))) ≡ false
  by true activation idle = refl
  by false true idle = refl
  by false false true = refl
  by false false false = refl

-- a stop and a failure have their causes in the note
pub stop_caused : (note : BankNote) → note.outcome ≡ Stopped → HasCause INFO_STOPPED note
stop_caused note stopped = record {
  stop = λ is none. let once : stopped_once note.outcome ≡ 1 = rw stopped refl in omega (arith, once, none);
  fault = λ is. absurd (apart INFO_STOPPED ERR_CDS_FAULT refl is);
  boot = λ is. absurd (apart INFO_STOPPED ERR_BOOT_FAULT refl is);
}

pub fault_caused : (note : BankNote) → note.outcome ≡ Failed → HasCause ERR_CDS_FAULT note
fault_caused note failed = record { stop = λ is. absurd (apart ERR_CDS_FAULT INFO_STOPPED refl is); fault = λ is. failed; boot = λ is. absurd (apart ERR_CDS_FAULT ERR_BOOT_FAULT refl is) }
