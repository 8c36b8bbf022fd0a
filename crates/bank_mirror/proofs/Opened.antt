-- How what an opening of two banks promises goes on over the calls before it.
use Rattle.std.proofs.Common.{◌≡◌, inl, inr, Bool, true, false, length, take, refl, sym, ◌∙◌, ap, subst, ◌==◌, ⊎_elim}
use Rattle.std.specs.Prelude.{Result, Ok, Err, OnOk, IfErr}
use Rattle.std.proofs.lemmas.Result.{IfOk-weaker, IfErr-weaker}
use Rattle.std.proofs.Math.Seq.{take-length}
use Rattle.tbl_outside.specs.declared.bank.Bank.{Ghosts}
use Rattle.tbl_outside.specs.declared.bank.Written.TheVariants.{Failed, Done, Stopped}
use Rattle.tbl_outside.proofs.Counts.{Rose-since}
use Rattle.bank_mirror.specs.declared.in_use.InUse.{InUse}
use Rattle.bank_mirror.specs.declared.in_use.Alone.{Alone}
use Rattle.bank_mirror.specs.declared.in_use.Alone.TheVariants.{First, Second}
use Rattle.bank_mirror.specs.declared.opening.OpenFault.{OpenFault}
use Rattle.bank_mirror.specs.declared.opening.Opened.{Opened}
use Rattle.bank_mirror.specs.Pairs.{Pair, BothTell, BothTellMoments, bytes_of, front_of, is_marked, shown_by, stale}
use Rattle.bank_mirror.specs.Counts.{GoesOn, CopyBroke}
use Rattle.bank_mirror.specs.BanksInUse.{IsHeld, IsExcused, in_use_alone}
use Rattle.bank_mirror.specs.Kept.{HoldsOnly, Keeps, WritesMark}
use Rattle.bank_mirror.specs.Copies.{SameUpTo, Copies}
use Rattle.bank_mirror.specs.Openings.{Opens, CallsFail, OpenFails, EndsCalls, CallsCounted, SetsMark}
use Rattle.bank_mirror.proofs.Calling.{holds_as, holds_twice, same_bytes, kept_front}
use Rattle.bank_mirror.proofs.GoodOne.{shown_is, one_is_out}
use Rattle.bank_mirror.proofs.Excuses.{excused_since, calls_counted, open_counted, goes_twice, second_fails, one_stops}
use Rattle.tbl_outside.specs.declared.bank.Written.{Written}
use Rattle.tbl_outside.proofs.Moments.{leaves_among, goes_on}
use Rattle.bank_mirror.specs.declared.in_use.InUse.TheVariants.{FirstOut}
use Rattle.bank_mirror.specs.declared.opening.OpenFault.TheVariants.{Fault, Stopped as OpenStopped}
use Rattle.bank_mirror.proofs.Bytes.{pair-fresh, pair-either}

module _ {A B : Type 0} (a : Ghosts A) (b : Ghosts B) where
  -- since an earlier moment, and with another name for whether the mark was set
  pub opens_since : (marked was : Bool) (old mid new : Pair A B) (in_use : InUse) (mark_failed : Bool) → GoesOn a b old mid → (BothTell a b → was ≡ marked)
      → Opens a b marked (mid.first, mid.second) new in_use mark_failed → Opens a b was (old.first, old.second) new in_use mark_failed
  opens_since marked was old mid new in_use mark_failed goes same opens = record {
    held = opens.held;
    excuse = excused_since a b mark_failed (old.first, old.second) mid new in_use goes.counts opens.excuse;
    mark = λ failed. Rose-since _ _ _ goes.counts.second_faults (opens.mark failed);
    unmarked = λ told fresh. opens.unmarked told (sym (same told) ∙ fresh);
    cleared = λ told marked. opens.cleared told (sym (same told) ∙ marked);
  }

  pub fail_since : (old mid new : Pair A B) (fault : OpenFault) → GoesOn a b old mid → CallsFail a b (mid.first, mid.second) new fault → CallsFail a b (old.first, old.second) new fault
  fail_since old mid new fault goes fails = record {
    counted = calls_counted a b (old.first, old.second) mid new fault goes.counts fails.counted;
    last = fails.last;
  }

  pub open_fails : (opening : A × B) (new : Pair A B) (fault : OpenFault) → CallsFail a b opening new fault → OpenFails a b opening new fault
  open_fails opening new fault fails = record { counted = open_counted a b opening new fault fails.counted; last = fails.last }

  -- after calls that left only what both held as one, and the mark as it was
  pub ends_since : (BothTellMoments a b → BothTell a b) → (old mid new : Pair A B) (result : Result Opened OpenFault) → HoldsOnly a b old mid (λ image. image ≡ bytes_of a b old) → (BothTell a b → is_marked a b old ≡ is_marked a b mid)
      → EndsCalls a b mid new result → EndsCalls a b old new result
  ends_since both old mid new result before same ends = record {
    opened = IfOk-weaker result _ _ (λ o. opens_since (is_marked a b mid) (is_marked a b old) old mid new o.in_use o.mark_failed before.goes_on same) ends.opened;
    failed = IfErr-weaker result _ _ (λ fault. fail_since old mid new fault before.goes_on) ends.failed;
    holds = holds_twice a b both old mid new (λ image. image ≡ bytes_of a b old) (λ image. image ≡ bytes_of a b mid) before ends.holds (λ told image is. is ∙ before.bytes told);
  }

  -- ---- a copy

  -- both hold the same, where all of the first's size was copied
  pub same_front : ((bank : A) → a.tells → length (a.now bank) ≡ a.size bank) → (old new : Pair A B) → a.size new.first ≡ a.size old.first → SameUpTo a b (a.size old.first) new
      → BothTell a b → front_of a b new ≡ a.now new.first
  same_front whole old new size same told =
      let is : length (a.now new.first) ≡ a.size old.first = whole new.first told.0 ∙ size in
      ap (λ n. take n (b.now new.second)) is ∙ same told ∙ ap (λ n. take n (a.now new.first)) (sym is) ∙ take-length (a.now new.first)

  -- until it ends, both hold what they held as one
  pub copy_holds : (BothTellMoments a b → BothTell a b) → (good : Alone) (old new : Pair A B) → IsHeld a b (in_use_alone good) old → Copies a b good old new → HoldsOnly a b old new (λ image. image ≡ bytes_of a b old)
  copy_holds both good old new held copies = holds_as a b both old new (λ image. image ≡ shown_by a b good old) (λ image. image ≡ bytes_of a b old) copies.holds (λ told image is. is ∙ sym (shown_is a b good old held told))

  -- a write of the other one failed, which is out then
  pub copy_broke : (good : Alone) (old new : Pair A B) (in_use : InUse) → in_use ≡ in_use_alone good → Copies a b good old new → CopyBroke a b good (old.first, old.second) new Failed
      → Opens a b (is_marked a b old) (old.first, old.second) new in_use false
  copy_broke good old new in_use is copies broke = record {
    held = subst (λ in_use. IsHeld a b in_use new) (sym is) copies.held;
    excuse = subst (IsExcused a b false (old.first, old.second) new) (sym is) (by good broke);
    mark = λ is. absurd (cc is);
    unmarked = λ told fresh. refl;
    cleared = λ told marked both. absurd (one_is_out a b good (sym is ∙ both));
  } where
    by : (good : Alone) → CopyBroke a b good (old.first, old.second) new Failed → IsExcused a b false (old.first, old.second) new (in_use_alone good)
    by First broke = inl broke
    by Second broke = inl broke

  -- ---- a write of the mark that failed

  pub mark_excuse : (good : Alone) (opening : A × B) (pair : Pair A B) → IsExcused a b true opening pair (in_use_alone good)
  mark_excuse First opening pair = inr (inr refl)
  mark_excuse Second opening pair = inr refl

  pub alone_excuse : (good : Alone) (opening : A × B) (pair : Pair A B) (in_use : InUse) (mark_failed : Bool) → in_use ≡ in_use_alone good → mark_failed ≡ true → IsExcused a b mark_failed opening pair in_use
  alone_excuse good opening pair in_use mark_failed out mark =
      subst (λ in_use. IsExcused a b mark_failed opening pair in_use) (sym out) (subst (λ mark_failed. IsExcused a b mark_failed opening pair (in_use_alone good)) (sym mark) (mark_excuse good opening pair))

-- ---- The mark is set, after it was read.

-- how a write of the mark is told
abbrev pub told_by : Written → Result Unit OpenFault
told_by Done = Ok tt
told_by Failed = Err Fault
told_by Stopped = Err OpenStopped

module _ {A B : Type 0} (a : Ghosts A) (b : Ghosts B) where
  pub mark_set : (BothTellMoments a b → BothTell a b) → (old mid new : Pair A B) (written : Written) → Keeps a b old mid → mid.first ≡ old.first → (BothTell a b → is_marked a b mid ≡ false)
      → WritesMark a b mid new stale written → SetsMark a b old new (told_by written)
  mark_set both old mid new written keeps other fresh writes = record {
    marked = marked written writes;
    front = λ told. writes.moves.front told ∙ front_is told;
    other = writes.moves.other ∙ other;
    counted = counted written writes;
    holds = record {
      bytes = λ told. ⊎_elim (λ is. inl (is ∙ ap a.now writes.moves.other ∙ first_is told)) (λ is. inr (is ∙ writes.moves.front told ∙ front_is told)) (pair-either (a.now new.first) (b.now new.second));
      moments = λ told. goes_on (leaves_among (keeps.moments told) (λ image is. inl is)) (writes.moves.moments told)
          (λ image. ⊎_elim (λ is. inl (is ∙ first_is (both told))) (λ is. inr (is ∙ front_is (both told))));
      goes_on = goes_twice a b old mid new keeps.goes_on writes.moves.goes_on;
    };
  } where
    first_is : BothTell a b → a.now mid.first ≡ bytes_of a b old
    first_is told = sym (pair-fresh (a.now mid.first) (b.now mid.second) (fresh told)) ∙ same_bytes a b old mid keeps told

    front_is : BothTell a b → front_of a b mid ≡ front_of a b old
    front_is = kept_front a b old mid keeps

    marked : (written : Written) → WritesMark a b mid new stale written → OnOk (told_by written) (IsHeld a b FirstOut new)
    marked Done writes = λ told. ap (λ n. n == stale) (writes.done refl told)
    marked Failed writes = tt
    marked Stopped writes = tt

    counted : (written : Written) → WritesMark a b mid new stale written → IfErr (told_by written) (CallsCounted a b (old.first, old.second) new)
    counted Done writes = tt
    counted Failed writes = inr (second_fails a b (old.first, old.second) mid new keeps.goes_on.counts writes.counted.0)
    counted Stopped writes = one_stops a b (old.first, old.second) mid new keeps.goes_on.counts (inr writes.counted.0)
