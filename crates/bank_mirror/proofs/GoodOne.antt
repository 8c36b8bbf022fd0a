-- The good one of two banks, which goes on alone while the other one is out.
use Rattle.std.proofs.Common.{◌≡◌, inl, inr, Bool, true, false, refl, sym, ◌∙◌, subst}
use Rattle.std.specs.Prelude.{Result, Ok, Err, OnErr, IsErr}
use Rattle.tbl_outside.specs.declared.bank.Bank.{Ghosts}
use Rattle.tbl_outside.specs.declared.bank.Written.{Written}
use Rattle.tbl_outside.specs.declared.bank.Written.TheVariants.{Done, Failed as BrokeOff, Stopped}
use Rattle.tbl_outside.specs.Counts.{Counted}
use Rattle.bank_mirror.specs.declared.in_use.InUse.{InUse}
use Rattle.bank_mirror.specs.declared.in_use.InUse.TheVariants.{Both, Unread}
use Rattle.bank_mirror.specs.declared.in_use.Alone.{Alone}
use Rattle.bank_mirror.specs.declared.in_use.Alone.TheVariants.{First, Second}
use Rattle.bank_mirror.specs.Pairs.{Pair, BothTell, is_marked, bytes_of, shown_by}
use Rattle.bank_mirror.specs.Counts.{IsSince, GoesOn, FirstFailed, SecondFailed, GoodFailed, OneFailed}
use Rattle.bank_mirror.specs.LastCalls.{LastReadFailed}
use Rattle.bank_mirror.specs.BanksInUse.{IsHeld, IsExcused, in_use_alone, LeavesOther, HasCause}
use Rattle.bank_mirror.specs.Kept.{Keeps, ReadsMark, LeavesInUse}
use Rattle.bank_mirror.proofs.Bytes.{pair-fresh, pair-stale}
use Rattle.bank_mirror.proofs.Excuses.{goes_twice, since_on, one_stopped_on, one_stops, excused_on, first_failed_on, second_failed_on, first_fails, second_fails, fails_since, first_out_too, second_out_too}

-- a fact of an error
pub of_err : {T E P : Type 0} (result : Result T E) → OnErr result P → IsErr result → P
of_err (Ok x) on is = absurd (cc is)
of_err (Err e) on is = on

pub to_err : {T E P : Type 0} (result : Result T E) → (IsErr result → P) → OnErr result P
to_err (Ok x) of = tt
to_err (Err e) of = of refl

module _ {A B : Type 0} (a : Ghosts A) (b : Ghosts B) where
  -- what the mark says
  pub fresh_by : (good : Alone) (pair : Pair A B) → good ≡ First → IsHeld a b (in_use_alone good) pair → BothTell a b → is_marked a b pair ≡ false
  fresh_by First pair is held = held
  fresh_by Second pair is held = absurd (cc is)

  pub stale_by : (good : Alone) (pair : Pair A B) → good ≡ Second → IsHeld a b (in_use_alone good) pair → BothTell a b → is_marked a b pair ≡ true
  stale_by First pair is held = absurd (cc is)
  stale_by Second pair is held = held

  -- what both hold as one is what the good one has
  pub shown_is : (good : Alone) (pair : Pair A B) → IsHeld a b (in_use_alone good) pair → BothTell a b → bytes_of a b pair ≡ shown_by a b good pair
  shown_is First pair held told = pair-fresh (a.now pair.first) (b.now pair.second) (held told)
  shown_is Second pair held told = pair-stale (a.now pair.first) (b.now pair.second) (held told)

  -- two pairs of which the same is the good one are marked alike
  pub same_by : (good : Alone) (one two : Pair A B) → IsHeld a b (in_use_alone good) one → IsHeld a b (in_use_alone good) two → BothTell a b → is_marked a b one ≡ is_marked a b two
  same_by First one two held also told = held told ∙ sym (also told)
  same_by Second one two held also told = held told ∙ sym (also told)

  -- one of them is out, and which one is known
  pub one_is_out : (good : Alone) → in_use_alone good ≡ Both → ⊥
  one_is_out First is = cc is
  one_is_out Second is = cc is

  pub mark_is_known : (good : Alone) → in_use_alone good ≡ Unread → ⊥
  mark_is_known First is = cc is
  mark_is_known Second is = cc is

  pub one_failed : (good : Alone) (was : A × B) (pair : Pair A B) → GoodFailed a b good was pair → OneFailed a b was pair
  one_failed First was pair failed = inl failed
  one_failed Second was pair failed = inr failed

  -- the same one goes on alone after a call, which if it failed did so by that one
  pub alone_stays : (good : Alone) (old new : Pair A B) (Failed : Type 0) → GoesOn a b old new → IsHeld a b (in_use_alone good) new → LeavesOther good old new
      → (Failed → GoodFailed a b good (old.first, old.second) new) → LeavesInUse a b (in_use_alone good) old new Failed (in_use_alone good)
  alone_stays First old new Failed goes held other fault = record {
    held = held;
    excuse = λ mark_failed opening since excused. excused_on a b mark_failed opening old new (in_use_alone First) since goes excused;
    out = (refl, other);
    last = λ is. absurd (cc is);
    fault = λ failed. inl (fault failed);
    cause = λ failed mark_failed opening since excused. first_out_too a b mark_failed opening new
        (excused_on a b mark_failed opening old new (in_use_alone First) since goes excused) (first_fails a b opening old new since (fault failed));
  }
  alone_stays Second old new Failed goes held other fault = record {
    held = held;
    excuse = λ mark_failed opening since excused. excused_on a b mark_failed opening old new (in_use_alone Second) since goes excused;
    out = (refl, other);
    last = λ is. absurd (cc is);
    fault = λ failed. inr (fault failed);
    cause = λ failed mark_failed opening since excused. second_out_too a b mark_failed opening new
        (excused_on a b mark_failed opening old new (in_use_alone Second) since goes excused) (second_fails a b opening old new since (fault failed));
  }

  -- both failed before the mark was read back, so a call after it may fail
  pub unread_cause : (old new : Pair A B) → GoesOn a b old new → HasCause a b Unread old new
  unread_cause old new goes mark_failed opening since excused = inl (first_failed_on a b opening old new since goes excused.0, second_failed_on a b opening old new since goes excused.1)

  -- after the mark was read back, the good one goes on alone
  pub alone_again : {E : Type 0} (good : Alone) (old mid new : Pair A B) (read : Result Alone E) (Failed : Type 0) → ReadsMark a b old mid read → GoesOn a b mid new
      → LeavesInUse a b (in_use_alone good) mid new Failed (in_use_alone good) → LeavesInUse a b Unread old new Failed (in_use_alone good)
  alone_again good old mid new read Failed reads goes alone = by good alone where
    on : GoesOn a b old new
    on = goes_twice a b old mid new reads.keeps.goes_on goes

    by : (good : Alone) → LeavesInUse a b (in_use_alone good) mid new Failed (in_use_alone good) → LeavesInUse a b Unread old new Failed (in_use_alone good)
    by First alone = record {
      held = alone.held;
      excuse = λ mark_failed opening since excused. inl (second_failed_on a b opening old new since on excused.1);
      out = λ is. absurd (cc is);
      last = λ is. absurd (cc is);
      fault = λ failed. fails_since a b (old.first, old.second) mid new reads.keeps.goes_on.counts (alone.fault failed);
      cause = λ failed. unread_cause old new on;
    }
    by Second alone = record {
      held = alone.held;
      excuse = λ mark_failed opening since excused. inl (first_failed_on a b opening old new since on excused.0);
      out = λ is. alone.out.1 ∙ reads.other;
      last = λ is. absurd (cc is);
      fault = λ failed. fails_since a b (old.first, old.second) mid new reads.keeps.goes_on.counts (alone.fault failed);
      cause = λ failed. unread_cause old new on;
    }

  -- it couldn't be read back
  pub unread_still : (old new : Pair A B) (Failed : Type 0) → Keeps a b old new → SecondFailed a b (old.first, old.second) new → LastReadFailed a b new → LeavesInUse a b Unread old new Failed Unread
  unread_still old new Failed keeps failed last = record {
    held = λ told. tt;
    excuse = λ mark_failed opening since excused. excused_on a b mark_failed opening old new Unread since keeps.goes_on excused;
    out = λ is. absurd (cc is);
    last = λ is. last;
    fault = λ _. inr failed;
    cause = λ _. unread_cause old new keeps.goes_on;
  }

  -- the first had failed, and then a write of the mark broke off: why the one is out that the mark says
  pub marked_excuse : (good : Alone) (written : Written) (mark_failed : Bool) (opening : A × B) (old mid new : Pair A B) → IsSince a b opening old → FirstFailed a b opening old
      → GoesOn a b old mid → GoesOn a b mid new → (written ≡ Done → ⊥) → Counted b.faults b.stops old.second mid.second written → IsExcused a b mark_failed opening new (in_use_alone good)
  marked_excuse Second written mark_failed opening old mid new since first one two broke counted = inl (first_failed_on a b opening old new since (goes_twice a b old mid new one two) first)
  marked_excuse First Done mark_failed opening old mid new since first one two broke counted = absurd (broke refl)
  marked_excuse First BrokeOff mark_failed opening old mid new since first one two broke counted = inl (second_failed_on a b opening mid new (since_on a b opening old mid since one) two (second_fails a b opening old mid since counted.0))
  marked_excuse First Stopped mark_failed opening old mid new since first one two broke counted = inr (inl (one_stopped_on a b opening mid new (since_on a b opening old mid since one) two (one_stops a b opening old mid since (inr counted.0))))
