-- How counts and excuses go on over the calls of two banks.
use Rattle.std.proofs.Common.{◌≡◌, inl, inr, ⊎_elim, Bool, ◌∙◌, ap, arith}
use Rattle.tbl_outside.specs.declared.bank.Bank.{Ghosts}
use Rattle.tbl_outside.specs.declared.bank.Written.{Written}
use Rattle.tbl_outside.specs.declared.bank.Written.TheVariants.{Done, Failed, Stopped}
use Rattle.tbl_outside.specs.Counts.{Counted}
use Rattle.tbl_outside.proofs.Counts.{Rose-since, Rose-until}
use Rattle.bank_mirror.specs.declared.in_use.InUse.{InUse}
use Rattle.bank_mirror.specs.declared.in_use.InUse.TheVariants.{Both, FirstOut, SecondOut, Unread}
use Rattle.bank_mirror.specs.Pairs.{Pair}
use Rattle.bank_mirror.specs.Counts.{FirstFailed, SecondFailed, OneFailed, OneStopped, SameStops, BothStill, IsSince, GoesOn, MayFail, WriteCounted}
use Rattle.bank_mirror.specs.BanksInUse.{IsExcused}
use Rattle.bank_mirror.specs.declared.opening.OpenFault.{OpenFault}
use Rattle.bank_mirror.specs.declared.opening.OpenFault.TheVariants.{Fault, Stopped as OpenStopped, Memory, Blank}
use Rattle.bank_mirror.specs.Openings.{OpenCounted, CallsCounted, CheckCounted}

module _ {A B : Type 0} (a : Ghosts A) (b : Ghosts B) where
  pub goes_twice : (old mid new : Pair A B) → GoesOn a b old mid → GoesOn a b mid new → GoesOn a b old new
  goes_twice old mid new one two =
      let before = one.counts in
      let after = two.counts in
      record {
        first_size = two.first_size ∙ one.first_size;
        second_size = two.second_size ∙ one.second_size;
        counts = record {
          first_faults = omega (arith, before.first_faults, after.first_faults);
          first_stops = omega (arith, before.first_stops, after.first_stops);
          second_faults = omega (arith, before.second_faults, after.second_faults);
          second_stops = omega (arith, before.second_stops, after.second_stops);
        };
        same_opening = two.same_opening ∙ one.same_opening;
      }

  pub since_on : (opening : A × B) (old new : Pair A B) → IsSince a b opening old → GoesOn a b old new → IsSince a b opening new
  since_on opening old new since goes =
      let after = goes.counts in
      record {
        first_faults = omega (arith, since.first_faults, after.first_faults);
        first_stops = omega (arith, since.first_stops, after.first_stops);
        second_faults = omega (arith, since.second_faults, after.second_faults);
        second_stops = omega (arith, since.second_stops, after.second_stops);
      }

  -- ---- what rose by an earlier moment rose by a later one

  pub first_failed_on : (opening : A × B) (old new : Pair A B) → IsSince a b opening old → GoesOn a b old new → FirstFailed a b opening old → FirstFailed a b opening new
  first_failed_on opening old new since goes = Rose-until _ _ _ since.first_faults goes.counts.first_faults

  pub second_failed_on : (opening : A × B) (old new : Pair A B) → IsSince a b opening old → GoesOn a b old new → SecondFailed a b opening old → SecondFailed a b opening new
  second_failed_on opening old new since goes = Rose-until _ _ _ since.second_faults goes.counts.second_faults

  pub one_stopped_on : (opening : A × B) (old new : Pair A B) → IsSince a b opening old → GoesOn a b old new → OneStopped a b opening old → OneStopped a b opening new
  one_stopped_on opening old new since goes (inl rose) = inl (Rose-until _ _ _ since.first_stops goes.counts.first_stops rose)
  one_stopped_on opening old new since goes (inr rose) = inr (Rose-until _ _ _ since.second_stops goes.counts.second_stops rose)

  pub excused_on : (mark_failed : Bool) (opening : A × B) (old new : Pair A B) (in_use : InUse) → IsSince a b opening old → GoesOn a b old new → IsExcused a b mark_failed opening old in_use → IsExcused a b mark_failed opening new in_use
  excused_on mark_failed opening old new Both since goes excused = tt
  excused_on mark_failed opening old new FirstOut since goes (inl failed) = inl (first_failed_on opening old new since goes failed)
  excused_on mark_failed opening old new FirstOut since goes (inr mark) = inr mark
  excused_on mark_failed opening old new SecondOut since goes (inl failed) = inl (second_failed_on opening old new since goes failed)
  excused_on mark_failed opening old new SecondOut since goes (inr (inl stopped)) = inr (inl (one_stopped_on opening old new since goes stopped))
  excused_on mark_failed opening old new SecondOut since goes (inr (inr mark)) = inr (inr mark)
  excused_on mark_failed opening old new Unread since goes both = (first_failed_on opening old new since goes both.0, second_failed_on opening old new since goes both.1)

  -- ---- what rose in a call rose since the opening

  pub first_fails : (opening : A × B) (old new : Pair A B) → IsSince a b opening old → FirstFailed a b (old.first, old.second) new → FirstFailed a b opening new
  first_fails opening old new since = Rose-since _ _ _ since.first_faults

  pub second_fails : (opening : A × B) (old new : Pair A B) → IsSince a b opening old → SecondFailed a b (old.first, old.second) new → SecondFailed a b opening new
  second_fails opening old new since = Rose-since _ _ _ since.second_faults

  pub one_stops : (opening : A × B) (old new : Pair A B) → IsSince a b opening old → OneStopped a b (old.first, old.second) new → OneStopped a b opening new
  one_stops opening old new since (inl rose) = inl (Rose-since _ _ _ since.first_stops rose)
  one_stops opening old new since (inr rose) = inr (Rose-since _ _ _ since.second_stops rose)

  -- ---- why a call fails, by which bank is out

  -- the second failed while the first was out
  pub second_out_too : (mark_failed : Bool) (opening : A × B) (pair : Pair A B) → IsExcused a b mark_failed opening pair FirstOut → SecondFailed a b opening pair → MayFail a b mark_failed opening pair
  second_out_too mark_failed opening pair (inl first) second = inl (first, second)
  second_out_too mark_failed opening pair (inr mark) second = inr (inr mark)

  -- the first failed while the second was out
  pub first_out_too : (mark_failed : Bool) (opening : A × B) (pair : Pair A B) → IsExcused a b mark_failed opening pair SecondOut → FirstFailed a b opening pair → MayFail a b mark_failed opening pair
  first_out_too mark_failed opening pair (inl second) first = inl (first, second)
  first_out_too mark_failed opening pair (inr (inl stopped)) first = inr (inl (inl first, stopped))
  first_out_too mark_failed opening pair (inr (inr mark)) first = inr (inr mark)

  -- what a write of one counts
  pub first_counted : (old new : Pair A B) (written : Written) → new.second ≡ old.second → Counted a.faults a.stops old.first new.first written → WriteCounted a b (old.first, old.second) new written
  first_counted old new Done other counted = (counted.1, ap b.stops other)
  first_counted old new Failed other counted = (inl counted.0, (counted.1, ap b.stops other))
  first_counted old new Stopped other counted = inl counted.0

  pub second_counted : (old new : Pair A B) (written : Written) → new.first ≡ old.first → Counted b.faults b.stops old.second new.second written → WriteCounted a b (old.first, old.second) new written
  second_counted old new Done other counted = (ap a.stops other, counted.1)
  second_counted old new Failed other counted = (inr counted.0, (ap a.stops other, counted.1))
  second_counted old new Stopped other counted = inr counted.0

  -- a write that failed did so by the bank that it was of
  pub first_broke : (old new : Pair A B) (written : Written) → written ≡ Failed → Counted a.faults a.stops old.first new.first written → FirstFailed a b (old.first, old.second) new
  first_broke old new Done is counted = absurd (cc is)
  first_broke old new Failed is counted = counted.0
  first_broke old new Stopped is counted = absurd (cc is)

  pub second_broke : (old new : Pair A B) (written : Written) → written ≡ Failed → Counted b.faults b.stops old.second new.second written → SecondFailed a b (old.first, old.second) new
  second_broke old new Done is counted = absurd (cc is)
  second_broke old new Failed is counted = counted.0
  second_broke old new Stopped is counted = absurd (cc is)

  -- a write after a call in which no count of stops rose
  pub counted_after : (old mid new : Pair A B) (written : Written) → GoesOn a b old mid → a.stops mid.first ≡ a.stops old.first → b.stops mid.second ≡ b.stops old.second
      → WriteCounted a b (mid.first, mid.second) new written → WriteCounted a b (old.first, old.second) new written
  counted_after old mid new Done goes first second counted = (counted.0 ∙ first, counted.1 ∙ second)
  counted_after old mid new Failed goes first second counted = (
    ⊎_elim (λ rose. inl (Rose-since _ _ _ goes.counts.first_faults rose)) (λ rose. inr (Rose-since _ _ _ goes.counts.second_faults rose)) counted.0,
    (counted.1.0 ∙ first, counted.1.1 ∙ second),
  )
  counted_after old mid new Stopped goes first second counted =
      ⊎_elim (λ rose. inl (Rose-since _ _ _ goes.counts.first_stops rose)) (λ rose. inr (Rose-since _ _ _ goes.counts.second_stops rose)) counted

  -- a write before a call in which no count of stops rose
  pub counted_before : (old mid new : Pair A B) (written : Written) → GoesOn a b old mid → GoesOn a b mid new → SameStops a b (mid.first, mid.second) new
      → WriteCounted a b (old.first, old.second) mid written → WriteCounted a b (old.first, old.second) new written
  counted_before old mid new Done one two stops counted = (stops.0 ∙ counted.0, stops.1 ∙ counted.1)
  counted_before old mid new Failed one two stops counted = (
    ⊎_elim (λ rose. inl (Rose-until _ _ _ one.counts.first_faults two.counts.first_faults rose)) (λ rose. inr (Rose-until _ _ _ one.counts.second_faults two.counts.second_faults rose)) counted.0,
    (stops.0 ∙ counted.1.0, stops.1 ∙ counted.1.1),
  )
  counted_before old mid new Stopped one two stops counted =
      ⊎_elim (λ rose. inl (Rose-until _ _ _ one.counts.first_stops two.counts.first_stops rose)) (λ rose. inr (Rose-until _ _ _ one.counts.second_stops two.counts.second_stops rose)) counted

  -- an excuse since a later moment is one since an earlier one
  pub excused_since : (mark_failed : Bool) (opening : A × B) (mid new : Pair A B) (in_use : InUse) → IsSince a b opening mid → IsExcused a b mark_failed (mid.first, mid.second) new in_use → IsExcused a b mark_failed opening new in_use
  excused_since mark_failed opening mid new Both since excused = tt
  excused_since mark_failed opening mid new FirstOut since (inl failed) = inl (first_fails opening mid new since failed)
  excused_since mark_failed opening mid new FirstOut since (inr mark) = inr mark
  excused_since mark_failed opening mid new SecondOut since (inl failed) = inl (second_fails opening mid new since failed)
  excused_since mark_failed opening mid new SecondOut since (inr (inl stopped)) = inr (inl (one_stops opening mid new since stopped))
  excused_since mark_failed opening mid new SecondOut since (inr (inr mark)) = inr (inr mark)
  excused_since mark_failed opening mid new Unread since both = (first_fails opening mid new since both.0, second_fails opening mid new since both.1)

  -- what an opening counted since a moment of it, it counted since it began
  pub calls_counted : (opening : A × B) (mid new : Pair A B) (fault : OpenFault) → IsSince a b opening mid → CallsCounted a b (mid.first, mid.second) new fault → CallsCounted a b opening new fault
  calls_counted opening mid new Fault since counted = ⊎_elim (λ rose. inl (first_fails opening mid new since rose)) (λ rose. inr (second_fails opening mid new since rose)) counted
  calls_counted opening mid new OpenStopped since counted = one_stops opening mid new since counted
  calls_counted opening mid new Memory since counted = absurd counted
  calls_counted opening mid new Blank since counted = absurd counted

  pub open_counted : (opening : A × B) (new : Pair A B) (fault : OpenFault) → CallsCounted a b opening new fault → OpenCounted a b opening new fault
  open_counted opening new Fault counted = counted
  open_counted opening new OpenStopped counted = counted
  open_counted opening new Memory counted = absurd counted
  open_counted opening new Blank counted = absurd counted

  pub check_counted : (opening : A × B) (new : Pair A B) (fault : OpenFault) → CallsCounted a b opening new fault → CheckCounted a b opening new fault
  check_counted opening new Fault counted = counted
  check_counted opening new OpenStopped counted = counted
  check_counted opening new Memory counted = absurd counted
  check_counted opening new Blank counted = absurd counted

  -- two calls in a row, one of which failed, or neither of which did anything to the counts
  pub fails_since : (opening : A × B) (mid new : Pair A B) → IsSince a b opening mid → OneFailed a b (mid.first, mid.second) new → OneFailed a b opening new
  fails_since opening mid new since failed = ⊎_elim (λ rose. inl (first_fails opening mid new since rose)) (λ rose. inr (second_fails opening mid new since rose)) failed

  pub still_twice : (was : A × B) (mid new : Pair A B) → BothStill a b was mid → BothStill a b (mid.first, mid.second) new → BothStill a b was new
  still_twice was mid new one two = ((two.0.0 ∙ one.0.0, two.0.1 ∙ one.0.1), (two.1.0 ∙ one.1.0, two.1.1 ∙ one.1.1))
