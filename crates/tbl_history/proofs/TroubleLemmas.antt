-- What a step leaves of the counts of the bank, and of the service.
use Rattle.std.proofs.Common.{◌≡◌, ℕ, ◌+◌, ◌≤◌, inl, inr, List, [], ◌∷◌, ◌++◌, length, Bool, true, false, Result, Ok, Err, refl, sym, ap, subst, ◌∙◌, arith}
use Rattle.std.proofs.lemmas.List.{length-append}
use Rattle.std.proofs.lemmas.List.Sums.{sum_by_push}
use Rattle.tbl_model.specs.BankCounts.{HasCause, faults_in, stops_in, fault_count, stop_count}
use Rattle.tbl_outside.specs.Counts.{Rose, Still, RoseBy}
use Rattle.tbl_outside.specs.declared.bank.Bank.{Ghosts}
use Rattle.tbl_core.specs.Ended.{OnPlayed, session_end}
use Rattle.tbl_core.specs.Service.{CoreView, AddsOne}
use Rattle.tbl_core.proofs.Trouble.{rose_on}
use Rattle.tbl_core.specs.declared.service.StepFault.{StepFault}
use Rattle.tbl_core.specs.declared.service.StepFault.TheVariants.{Memory as NoMemory, BootFault, BootStopped}
use Rattle.tbl_kinds.specs.declared.entry.Entry.{Entry}
use Rattle.tbl_kinds.specs.declared.note.BankNote.{BankNote}
use Rattle.tbl_kinds.specs.declared.request.Actor.{Actor}
use Rattle.tbl_kinds.specs.declared.request.Request.{Request}
use Rattle.tbl_session.specs.Trouble.{Rises, HaveCauses, EndsInBoot}
use Rattle.tbl_history.specs.Trouble.{IsCaused}

causes_push : (entries : List Entry) (e : Entry) → HaveCauses entries → HasCause e.reply.status e.given.note → HaveCauses (entries ++ e ∷ [])
causes_push [] e causes cause = (cause, tt)
causes_push (x ∷ entries) e causes cause = (causes.0, causes_push entries e causes.1 cause)

-- ---- the last entry

same_last : (xs ys : List Entry) (x y : Entry) → xs ++ x ∷ [] ≡ ys ++ y ∷ [] → x ≡ y
same_last [] [] x y e = cc
same_last [] (b ∷ ys) x y e = absurd (omega (arith, ap length e, length-append ys (y ∷ [])))
same_last (a ∷ xs) [] x y e = absurd (omega (arith, ap length e, length-append xs (x ∷ [])))
same_last (a ∷ xs) (b ∷ ys) x y e = let more : xs ++ x ∷ [] ≡ ys ++ y ∷ [] = cc in same_last xs ys x y more

pub no_last : (before : List Entry) (last : Entry) → [] ≡ before ++ last ∷ [] → ⊥
no_last before last e = omega (arith, ap length e, length-append before (last ∷ []))

-- one entry more
pub caused_on : {B C : Type 0} (g : Ghosts B) (bank : B) (old new : CoreView B C) (actor : Actor) (request : Request) (result : Result Unit StepFault) → AddsOne g old new actor request result
    → IsCaused g bank old → IsCaused g bank new
caused_on g bank old new actor request result one caused =
    let all_faults : fault_count new.entries ≡ fault_count old.entries + faults_in one.entry.given.note = ap fault_count one.added ∙ sum_by_push (λ (e : Entry). faults_in e.given.note) old.entries one.entry in
    let all_stops : stop_count new.entries ≡ stop_count old.entries + stops_in one.entry.given.note = ap stop_count one.added ∙ sum_by_push (λ (e : Entry). stops_in e.given.note) old.entries one.entry in
    record {
      fault_up = omega (arith, caused.fault_up, one.trouble.fault_count);
      stop_up = omega (arith, caused.stop_up, one.trouble.stop_count);
      trouble = record {
        fault = rw all_faults (rose_on _ _ _ _ _ caused.fault_up one.trouble.fault_count caused.trouble.fault one.trouble.fault);
        stop = rw all_stops (rose_on _ _ _ _ _ caused.stop_up one.trouble.stop_count caused.trouble.stop one.trouble.stop);
      };
      causes = subst HaveCauses (sym one.added) (causes_push old.entries one.entry caused.causes one.cause);
      ended = λ before last is. one.ended ∙ ap (λ (e : Entry). e.given.note.ended) (same_last old.entries before one.entry last (sym one.added ∙ is));
    }

-- at first
pub caused_at_first : {B C : Type 0} (g : Ghosts B) (bank : B) (core : CoreView B C) → core.entries ≡ [] → Still g.faults g.stops bank core.state.store.bank → IsCaused g bank core
caused_at_first g bank core none still = record {
  fault_up = omega (arith, still.0);
  stop_up = omega (arith, still.1);
  trouble = record {
    fault = rw none (inl (omega (arith, still.0)));
    stop = rw none (inl (omega (arith, still.1)));
  };
  causes = rw none tt;
  ended = λ before last is. absurd (no_last before last (sym none ∙ is));
}

-- ---- a boot that was the last

pub on_fault : {P : Type 0} (f : StepFault) → f ≡ BootFault → OnPlayed (Err f) P → P
on_fault NoMemory is p = absurd (cc is)
on_fault BootFault is p = p
on_fault BootStopped is p = p

pub on_stop : {P : Type 0} (f : StepFault) → f ≡ BootStopped → OnPlayed (Err f) P → P
on_stop NoMemory is p = absurd (cc is)
on_stop BootFault is p = p
on_stop BootStopped is p = p

boot_failed : (note : BankNote) (ended stopped : Bool) → note.ended ≡ ended → note.stopped ≡ stopped → Err BootFault ≡ session_end note → (note.ended ≡ true) × (note.stopped ≡ false)
boot_failed note true true is stop e = let other : session_end note ≡ Err BootStopped = rw (is, stop) refl in absurd (cc (e, other))
boot_failed note true false is stop e = (is, stop)
boot_failed note false stopped is stop e = let other : session_end note ≡ Ok tt = rw is refl in absurd (cc (e, other))

boot_stopped : (note : BankNote) (ended stopped : Bool) → note.ended ≡ ended → note.stopped ≡ stopped → Err BootStopped ≡ session_end note → (note.ended ≡ true) × (note.stopped ≡ true)
boot_stopped note true true is stop e = (is, stop)
boot_stopped note true false is stop e = let other : session_end note ≡ Err BootFault = rw (is, stop) refl in absurd (cc (e, other))
boot_stopped note false stopped is stop e = let other : session_end note ≡ Ok tt = rw is refl in absurd (cc (e, other))

pub ends_in_fault : {B C : Type 0} (g : Ghosts B) (old new : CoreView B C) (actor : Actor) (request : Request) → AddsOne g old new actor request (Err BootFault) → EndsInBoot false new.entries
ends_in_fault g old new actor request one = let b = boot_failed one.entry.given.note one.entry.given.note.ended one.entry.given.note.stopped refl refl one.ends in (old.entries, one.entry, one.added, b.0, b.1)

pub ends_in_stop : {B C : Type 0} (g : Ghosts B) (old new : CoreView B C) (actor : Actor) (request : Request) → AddsOne g old new actor request (Err BootStopped) → EndsInBoot true new.entries
ends_in_stop g old new actor request one = let b = boot_stopped one.entry.given.note one.entry.given.note.ended one.entry.given.note.stopped refl refl one.ends in (old.entries, one.entry, one.added, b.0, b.1)

-- a service that goes on had no such boot
pub still_lives : {B C : Type 0} (g : Ghosts B) (bank : B) (core : CoreView B C) (stopped : Bool) → IsCaused g bank core → core.state.ended ≡ false → EndsInBoot stopped core.entries → ⊥
still_lives g bank core stopped caused live boot = let same = caused.ended boot.0 boot.1 boot.2 in let ended = boot.3 in cc (same, live, ended)

-- and a boot that failed wasn't stopped
pub one_boot : (entries : List Entry) → EndsInBoot false entries → EndsInBoot true entries → ⊥
one_boot entries fault stop =
    let same = same_last fault.0 stop.0 fault.1 stop.1 (sym fault.2 ∙ stop.2) in
    let failed = fault.4 in let stopped = stop.4 in cc (same, failed, stopped)

-- ---- a count that rose

pub rose_once : (before now : ℕ) → Rose before now → RoseBy 1 before now
rose_once before now (inl rose) = inl (omega (arith, rose))
rose_once before now (inr top) = inr (omega (arith, top))

pub rose_never : (before now : ℕ) → Rose before now → RoseBy 0 before now
rose_never before now (inl rose) = inl (omega (arith, rose))
rose_never before now (inr top) = inr (omega (arith, top))

-- fewer
rose_fewer : (many fewer before now : ℕ) → fewer ≤ many → RoseBy many before now → RoseBy fewer before now
rose_fewer many fewer before now le (inl rose) = inl (omega (arith, rose, le))
rose_fewer many fewer before now le (inr top) = inr top

-- a boot that failed or was stopped is one of those that the history has
told_fault : (note : BankNote) → note.ended ≡ true → note.stopped ≡ false → 1 ≤ faults_in note
told_fault note ended stopped = rw (ended, stopped) (omega arith)

told_stop : (note : BankNote) → note.ended ≡ true → note.stopped ≡ true → 1 ≤ stops_in note
told_stop note ended stopped = rw (ended, stopped) (omega arith)

pub rose_by_fault : {B : Type 0} (g : Ghosts B) (bank bank_then : B) (entries : List Entry) → Rises g bank bank_then entries → EndsInBoot false entries → RoseBy 1 (g.faults bank) (g.faults bank_then)
rose_by_fault g bank bank_then entries rises boot =
    let all : fault_count entries ≡ fault_count boot.0 + faults_in boot.1.given.note = ap fault_count boot.2 ∙ sum_by_push (λ (e : Entry). faults_in e.given.note) boot.0 boot.1 in
    rose_fewer (fault_count entries) 1 (g.faults bank) (g.faults bank_then) (omega (arith, all, told_fault boot.1.given.note boot.3 boot.4)) rises.fault

pub rose_by_stop : {B : Type 0} (g : Ghosts B) (bank bank_then : B) (entries : List Entry) → Rises g bank bank_then entries → EndsInBoot true entries → RoseBy 1 (g.stops bank) (g.stops bank_then)
rose_by_stop g bank bank_then entries rises boot =
    let all : stop_count entries ≡ stop_count boot.0 + stops_in boot.1.given.note = ap stop_count boot.2 ∙ sum_by_push (λ (e : Entry). stops_in e.given.note) boot.0 boot.1 in
    rose_fewer (stop_count entries) 1 (g.stops bank) (g.stops bank_then) (omega (arith, all, told_stop boot.1.given.note boot.3 boot.4)) rises.stop
