-- What holds of a registration over any bank: it isn't reported, and its note has its cause in the counts of the bank.
use Rattle.std.proofs.Common.{◌≡◌, ◌≢◌, inl, ℕ, ◌+◌, List, [], length, take, drop, ◌++◌, ◌≤◌, arith, true, false, Option, Some, None, Result, Ok, Err, refl, sym, ◌∙◌, ap, subst}
use Rattle.std.proofs.Math.Seq.{take-append_seam}
use Rattle.tbl_kinds.specs.Notes.{untouched}
use Rattle.tbl_kinds.specs.declared.note.BankNote.{BankNote}
use Rattle.tbl_kinds.specs.declared.note.Outcome.TheVariants.{Stopped}
use Rattle.tbl_kinds.specs.declared.status.Status.{Status}
use Rattle.tbl_kinds.specs.declared.status.TheConstants.Status.{SUCCESS, INFO_STOPPED, INFO_RECOVERED_TBL, WARN_NOT_CRITICAL, ERR_CDS_TORN, ERR_CDS_FAULT}
use Rattle.tbl_model.specs.State.{Table, Tables}
use Rattle.tbl_model.specs.TableSteps.{with_first, uncritical}
use Rattle.tbl_model.specs.Boots.{boot, stopped}
use Rattle.sharing.specs.Registering.{next_handle}
use Rattle.cds_layout.specs.declared.blocks.RestoreFault.{RestoreFault}
use Rattle.cds_layout.specs.Restores.{RestoreCounted, FaultCounted, words}
use Rattle.cds_store.specs.StoreBlocks.{StoreParts}
use Rattle.cds_store.specs.declared.fault.BankFault.{BankFault}
use Rattle.cds_store.specs.declared.fault.BankFault.TheVariants.{Fault, Stopped as Cut}
use Rattle.tbl_model.specs.BankCounts.{tells_trouble, HasCause}
use Rattle.request_effects.specs.Effects.{IsWithin, Effect}
use Rattle.store_requests.specs.Called.{NoBoot, Troubled, broken_note, done_note, IsTold, IsSilent, IsUngiven, IsCall, torn_note}
use Rattle.store_requests.specs.Entering.{Enters, EntersBroken, EntersWithout, EntersRestored}
use Rattle.store_requests.proofs.CopyEnds.{rose_one}
use Rattle.tbl_outside.specs.declared.bank.Bank.{Ghosts}

-- ---- in place

-- a vector whose elements were all written over has these
pub refilled : (n : ℕ) (xs ys : List ℕ) → n ≡ length xs → take n (xs ++ drop (length xs) ys) ≡ xs
refilled n xs ys is = ap (λ (k : ℕ). take k (xs ++ drop (length xs) ys)) is ∙ take-append_seam xs (drop (length xs) ys)

-- ---- what is reported of it, and the counts of the bank

plain_cause : (status : Status) (note : BankNote) → tells_trouble status ≡ false → HasCause status note
plain_cause status note quiet = record {
  stop = λ is. absurd (cc (ap tells_trouble (sym is) ∙ quiet));
  fault = λ is. absurd (cc (ap tells_trouble (sym is) ∙ quiet));
  boot = λ is. absurd (cc (ap tells_trouble (sym is) ∙ quiet));
}

silent_within : (done : Effect) (status : Status) (detail : ℕ) (note : BankNote) → IsTold done status detail [] note → IsWithin 0 done
silent_within done status detail note told = record {
  events = rw told.silent.events (omega arith);
  notice = rw told.silent.notice tt;
  bytes = rw told.bytes_are (omega arith);
}

module _ {B : Type 0} (g : Ghosts B) (before kept : StoreParts B) (old new : Tables) (t : Table) (done : Effect) (booted : kept.booted ≡ true) where
  -- the table was registered
  pub enters_call : (u : Table) (status : Status) (note : BankNote) → Enters old new u done status note → NoBoot note → note.outcome ≢ Stopped → tells_trouble status ≡ false → Troubled g before.bank kept.bank note → IsCall g before kept done
  enters_call u status note enters no_boot goes quiet trouble = record {
    within = silent_within done status (next_handle old) note enters.told;
    verdicts = enters.told.silent.verdicts;
    no_boot = subst NoBoot (sym enters.told.note_is) no_boot;
    stopped = λ is. absurd (goes (ap (λ (n : BankNote). n.outcome) (sym enters.told.note_is) ∙ is));
    cause = rw enters.told.status_is (plain_cause status done.note quiet);
    trouble = subst (Troubled g before.bank kept.bank) (sym enters.told.note_is) trouble;
    booted = booted;
  }

  -- a call broke off
  pub broken_call : (fault : BankFault) (note : BankNote) → EntersBroken old new t done fault note → NoBoot note → Troubled g before.bank kept.bank (broken_note fault note) → IsCall g before kept done
  broken_call (Fault gate prior) note enters no_boot trouble =
      enters_call (uncritical t) WARN_NOT_CRITICAL (broken_note (Fault gate prior) note) enters (record { ended = no_boot.ended; stopped = no_boot.stopped; found = no_boot.found }) (λ is. cc is) refl trouble
  broken_call (Cut gate prior) note enters no_boot trouble =
      let n = broken_note (Cut gate prior) note in record {
        within = silent_within done INFO_STOPPED 0 n enters.0;
        verdicts = enters.0.silent.verdicts;
        no_boot = subst NoBoot (sym enters.0.note_is) (record { ended = no_boot.ended; stopped = no_boot.stopped; found = no_boot.found });
        stopped = λ is. enters.0.status_is;
        cause = rw (enters.0.status_is, enters.0.note_is) (record {
          stop = λ is none. absurd (cc none);
          fault = λ is. let same = ap (λ (status : Status). status.0) is in absurd (omega (arith, same));
          boot = λ is. let same = ap (λ (status : Status). status.0) is in absurd (omega (arith, same));
        });
        trouble = subst (Troubled g before.bank kept.bank) (sym enters.0.note_is) trouble;
        booted = booted;
      }

  pub restored_call : (ended : Result Unit RestoreFault) (image : List ℕ) → EntersRestored old new t done ended image → RestoreCounted g.faults g.stops before.bank kept.bank ended → g.faults before.bank ≤ g.faults kept.bank → g.stops before.bank ≤ g.stops kept.bank
      → IsCall g before kept done
  restored_call (Ok x) image enters counted more_faults more_stops =
      let a = counted.0 in let b = counted.1 in
      enters_call (with_first (Some image) t) INFO_RECOVERED_TBL (record (done_note untouched) { restored = done.note.restored })
      (subst (λ (n : BankNote). Enters old new (with_first (Some image) t) done INFO_RECOVERED_TBL n) enters.noted.done enters.enters) (record { ended = refl; stopped = refl; found = refl }) (λ is. cc is) refl
      (record { fault_count = more_faults; stop_count = more_stops; fault = inl (omega (arith, a)); stop = inl (omega (arith, b)); no_fault = λ none. a; no_stop = λ none. b })
  restored_call (Err broke) image enters counted more_faults more_stops = by (words broke) enters counted where
    by : (w : Option ℕ) → EntersWithout old new t done w → FaultCounted g.faults g.stops before.bank kept.bank w → IsCall g before kept done
    by (Some told_words) enters counted =
        let a = counted.0 in let b = counted.1 in
        enters_call t SUCCESS (torn_note told_words) enters (record { ended = refl; stopped = refl; found = refl }) (λ is. cc is) refl
        (record { fault_count = more_faults; stop_count = more_stops; fault = inl (omega (arith, a)); stop = inl (omega (arith, b)); no_fault = λ none. a; no_stop = λ none. b })
    by None enters counted =
        let b = counted.1 in
        broken_call (Fault false false) untouched enters (record { ended = refl; stopped = refl; found = refl })
        (record { fault_count = more_faults; stop_count = more_stops; fault = rose_one _ _ counted.0; stop = inl (omega (arith, b)); no_fault = λ none. absurd (cc none); no_stop = λ none. b })

-- a restore gave no image
pub ungiven_silent : (done : Effect) (w : Option ℕ) → IsUngiven done w → IsSilent done
ungiven_silent done (Some told) is = is.silent
ungiven_silent done None is = is.silent

pub ungiven_call : {B : Type 0} (g : Ghosts B) (before kept : StoreParts B) (done : Effect) (broke : RestoreFault) → kept.booted ≡ true → IsUngiven done (words broke)
    → FaultCounted g.faults g.stops before.bank kept.bank (words broke) → g.faults before.bank ≤ g.faults kept.bank → g.stops before.bank ≤ g.stops kept.bank → IsCall g before kept done
ungiven_call g before kept done broke booted told counted more_faults more_stops = by (words broke) told counted where
  by : (w : Option ℕ) → IsUngiven done w → FaultCounted g.faults g.stops before.bank kept.bank w → IsCall g before kept done
  by (Some told_words) told counted =
      let a = counted.0 in let b = counted.1 in record {
        within = silent_within done ERR_CDS_TORN told_words (torn_note told_words) told;
        verdicts = told.silent.verdicts;
        no_boot = subst NoBoot (sym told.note_is) (record { ended = refl; stopped = refl; found = refl });
        stopped = λ is. absurd (cc (ap (λ (n : BankNote). n.outcome) (sym told.note_is) ∙ is));
        cause = rw told.status_is (plain_cause ERR_CDS_TORN done.note refl);
        trouble = subst (Troubled g before.bank kept.bank) (sym told.note_is) (record { fault_count = more_faults; stop_count = more_stops; fault = inl (omega (arith, a)); stop = inl (omega (arith, b)); no_fault = λ none. a; no_stop = λ none. b });
        booted = booted;
      }
  by None told counted =
      let b = counted.1 in record {
        within = silent_within done ERR_CDS_FAULT 0 (broken_note (Fault false false) untouched) told;
        verdicts = told.silent.verdicts;
        no_boot = subst NoBoot (sym told.note_is) (record { ended = refl; stopped = refl; found = refl });
        stopped = λ is. absurd (cc (ap (λ (n : BankNote). n.outcome) (sym told.note_is) ∙ is));
        cause = rw (told.status_is, told.note_is) (record {
          stop = λ is. let same = ap (λ (status : Status). status.0) is in absurd (omega (arith, same));
          fault = λ is. refl;
          boot = λ is. let same = ap (λ (status : Status). status.0) is in absurd (omega (arith, same));
        });
        trouble = subst (Troubled g before.bank kept.bank) (sym told.note_is) (record { fault_count = more_faults; stop_count = more_stops; fault = rose_one _ _ counted.0; stop = inl (omega (arith, b)); no_fault = λ none. absurd (cc none); no_stop = λ none. b });
        booted = booted;
      }
