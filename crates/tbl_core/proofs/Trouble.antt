-- How the counts of the bank rose in a request: in its calls of the store, and in the boot after a stop of one.
use Rattle.std.proofs.Common.{◌≡◌, ◌≢◌, inl, inr, ℕ, ◌+◌, ◌≤◌, refl, ap, ◌∙◌, arith}
use Rattle.tbl_kinds.specs.Notes.{untouched}
use Rattle.tbl_model.specs.BankCounts.{stopped_once, faults_in, stops_in, HasCause}
use Rattle.tbl_kinds.specs.declared.note.BankNote.{BankNote}
use Rattle.tbl_kinds.specs.declared.note.Outcome.{Outcome}
use Rattle.tbl_kinds.specs.declared.note.Outcome.TheVariants.{Untouched, Done, Failed, Stopped}
use Rattle.tbl_kinds.specs.declared.status.Status.{Status}
use Rattle.store_requests.specs.Called.{NoBoot, Troubled}
use Rattle.tbl_outside.specs.Counts.{RoseBy}
use Rattle.tbl_outside.specs.declared.bank.Bank.{Ghosts}
use Rattle.tbl_core.specs.Ended.{Follows, boot_only}

-- one rise after another
pub rose_on : (a b x y z : ℕ) → x ≤ y → y ≤ z → RoseBy a x y → RoseBy b y z → RoseBy (a + b) x z
rose_on a b x y z up further (inl first) (inl second) = inl (omega (arith, first, second))
rose_on a b x y z up further (inr top) (inl second) = inr (omega (arith, top, further))
rose_on a b x y z up further first (inr top) = inr top

module _ {B : Type 0} (g : Ghosts B) (old mid new : B) where
  -- what two notes say, one after another
  pub troubled_on : (first second both : BankNote) → faults_in both ≡ faults_in first + faults_in second → stops_in both ≡ stops_in first + stops_in second
      → Troubled g old mid first → Troubled g mid new second → Troubled g old new both
  troubled_on first second both all_faults all_stops one other =
      let a = one.fault_count in let b = other.fault_count in let c = one.stop_count in let d = other.stop_count in record {
        fault_count = omega (arith, a, b);
        stop_count = omega (arith, c, d);
        fault = rw all_faults (rose_on (faults_in first) (faults_in second) _ _ _ a b one.fault other.fault);
        stop = rw all_stops (rose_on (stops_in first) (stops_in second) _ _ _ c d one.stop other.stop);
        no_fault = λ none. let all = all_faults in other.no_fault (omega (arith, all, none)) ∙ one.no_fault (omega (arith, all, none));
        no_stop = λ none. let all = all_stops in other.no_stop (omega (arith, all, none)) ∙ one.no_stop (omega (arith, all, none));
      }

  -- the calls, and the boot after a stop
  pub troubled_after : (called note : BankNote) → Follows called note → (called.outcome ≡ Stopped → NoBoot called)
      → Troubled g old mid called → Troubled g mid new (boot_only called.outcome note) → Troubled g old new note
  troubled_after called note follows fresh one other = by called.outcome refl where
    -- no boot was there
    still : called.outcome ≢ Stopped → boot_only called.outcome note ≡ untouched → Troubled g old new note
    still goes none = troubled_on called untouched note (rw (follows.same goes) (omega arith)) (rw (follows.same goes) (omega arith)) one (rw (← none) other)

    by : (outcome : Outcome) → called.outcome ≡ outcome → Troubled g old new note
    by Untouched is = still (λ stop. cc (is, stop)) (rw is refl)
    by Done is = still (λ stop. cc (is, stop)) (rw is refl)
    by Failed is = still (λ stop. cc (is, stop)) (rw is refl)
    by Stopped is =
        let no_boot = fresh is in
        let same : note.outcome ≡ Stopped = ap (λ (n : BankNote). n.outcome) follows.is ∙ is in
        troubled_on called (boot_only called.outcome note) note (rw (is, same, no_boot.ended) (omega arith)) (rw (is, same, no_boot.ended) (omega arith)) one other

-- an answer has its cause in what the calls left, and so in what a boot after them added
pub caused_after : (status : Status) (called note : BankNote) → Follows called note → (called.outcome ≡ Stopped → NoBoot called) → HasCause status called → HasCause status note
caused_after status called note follows fresh cause = by called.outcome refl where
  by : (outcome : Outcome) → called.outcome ≡ outcome → HasCause status note
  by Untouched is = rw (follows.same (λ stop. cc (is, stop))) cause
  by Done is = rw (follows.same (λ stop. cc (is, stop))) cause
  by Failed is = rw (follows.same (λ stop. cc (is, stop))) cause
  by Stopped is =
      let no_boot = fresh is in
      let same : note.outcome ≡ Stopped = ap (λ (n : BankNote). n.outcome) follows.is ∙ is in record {
        stop = λ stopped none. let once : stopped_once note.outcome ≡ 1 = rw same refl in omega (arith, once, none);
        fault = λ faulted. absurd (cc (cause.fault faulted, is));
        boot = λ failed. absurd (cc ((cause.boot failed).0, no_boot.ended));
      }
