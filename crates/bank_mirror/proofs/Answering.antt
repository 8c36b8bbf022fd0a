-- What a call of two banks as one tells, and what holds after it.
use Rattle.std.proofs.Common.{◌≡◌, ◌⊎◌, inl, inr, ℕ, ◌+◌, ◌-◌, ◌^◌, ◌<◌, ◌≤◌, min, List, length, refl, sym, subst, arith}
use Rattle.std.specs.Prelude.{Bool, true, false, if◌then◌else◌, Result, Ok, Err, is_err, OnOk, OnErr}
use Rattle.std.proofs.lemmas.Bool.{cases_lt}
use Rattle.tbl_outside.specs.declared.bank.Bank.{Ghosts}
use Rattle.tbl_outside.specs.declared.bank.Written.{Written}
use Rattle.tbl_outside.specs.declared.bank.Written.TheVariants.{Done, Failed, Stopped}
use Rattle.tbl_outside.specs.Bank.{Torn, LeavesOnly}
use Rattle.tbl_outside.specs.Counts.{Rose, Still, RoseAlone, Counted, risen}
use Rattle.tbl_outside.proofs.Counts.{Rose-risen, le-risen}
use Rattle.bank_mirror.specs.declared.in_use.InUse.TheVariants.{Unread}
use Rattle.bank_mirror.specs.declared.reads.ReadEnd.{ReadEnd}
use Rattle.bank_mirror.specs.declared.writes.Ended.{Ended}
use Rattle.bank_mirror.specs.Pairs.{Pair, bytes_of}
use Rattle.bank_mirror.specs.Moments.{Leaves}
use Rattle.bank_mirror.specs.Counts.{opening_of, stops_of, OneStopped, IsSince, GoesOn, SameStops, MayFail, WriteCounted}
use Rattle.bank_mirror.specs.LastCalls.{LastReadFailed}
use Rattle.bank_mirror.specs.BanksInUse.{IsHeld, IsExcused, KeepsExcuse, LeavesOut, HasCause}
use Rattle.bank_mirror.specs.CallsInUse.{ReadsInUse, WritesInUse}
use Rattle.bank_mirror.specs.Mirrors.{Mirrored, IsMirror, moment_of, LeftSinceOf, faults_of, stops_in, fails, KeepsRules, ReadsBoth, WritesBoth}
use Rattle.bank_mirror.proofs.Excuses.{since_on}
use Rattle.bank_mirror.proofs.Calling.{same_bytes}
use Rattle.bank_mirror.proofs.GoodOne.{to_err}

-- a sum that stands still at a top rises with either of its parts
sum_rises : (a b a' b' top : ℕ) → a ≤ a' → b ≤ b' → a + b < a' + b' → (min (a + b) top < min (a' + b') top) ⊎ (min (a' + b') top ≡ top)
sum_rises a b a' b' top first second rose = elim (cases_lt (a' + b') top) [
  | inl below ↦ inl (omega (arith, rose, below))
  | inr over ↦ inr (omega (arith, over))
]

sum_full : (a' b' top : ℕ) → a' ≡ top → min (a' + b') top ≡ top
sum_full a' b' top full = omega (arith, full)

sum_full_too : (a' b' top : ℕ) → b' ≡ top → min (a' + b') top ≡ top
sum_full_too a' b' top full = omega (arith, full)

sum_grows : (a b a' b' top : ℕ) → a ≤ a' → b ≤ b' → min (a + b) top ≤ min (a' + b') top
sum_grows a b a' b' top first second = omega (arith, first, second)

-- a count after one more call isn't less
counted_grows : (old new : ℕ) (failed : Bool) → old ≤ 2 ^ 64 - 1 → new ≡ (if failed then risen old else old) → old ≤ new
counted_grows old new true bound is = subst (λ n. old ≤ n) (sym is) (le-risen old bound)
counted_grows old new false bound is = omega (arith, is)

module _ {A B : Type 0} (a : Ghosts A) (b : Ghosts B) where
  stops_rise : (old new : Pair A B) → IsSince a b (old.first, old.second) new → OneStopped a b (old.first, old.second) new → Rose (stops_of a b old) (stops_of a b new)
  stops_rise old new since (inl (inl rose)) = sum_rises (a.stops old.first) (b.stops old.second) (a.stops new.first) (b.stops new.second) (2 ^ 64 - 1) since.first_stops since.second_stops (omega (arith, rose, since.second_stops))
  stops_rise old new since (inl (inr full)) = inr (sum_full (a.stops new.first) (b.stops new.second) (2 ^ 64 - 1) full)
  stops_rise old new since (inr (inl rose)) = sum_rises (a.stops old.first) (b.stops old.second) (a.stops new.first) (b.stops new.second) (2 ^ 64 - 1) since.first_stops since.second_stops (omega (arith, rose, since.first_stops))
  stops_rise old new since (inr (inr full)) = inr (sum_full_too (a.stops new.first) (b.stops new.second) (2 ^ 64 - 1) full)

  stops_grow : (old new : Pair A B) → IsSince a b (old.first, old.second) new → stops_of a b old ≤ stops_of a b new
  stops_grow old new since = sum_grows (a.stops old.first) (b.stops old.second) (a.stops new.first) (b.stops new.second) (2 ^ 64 - 1) since.first_stops since.second_stops

  same_stops : (old new : Pair A B) → SameStops a b (old.first, old.second) new → stops_of a b new ≡ stops_of a b old
  same_stops old new same = λ i. min (same.0 i + same.1 i) (2 ^ 64 - 1)

  -- its counts move as a bank's do
  write_counted : (old new : Mirrored A B) (written : Written) → IsSince a b (old.pair.first, old.pair.second) new.pair → WriteCounted a b (old.pair.first, old.pair.second) new.pair written
      → new.faults ≡ (if fails written then risen old.faults else old.faults) → Counted faults_of (stops_in a b) old new written
  write_counted old new Done since counted faults = (faults, same_stops old.pair new.pair counted)
  write_counted old new Failed since counted faults = (subst (Rose old.faults) (sym faults) (Rose-risen old.faults), same_stops old.pair new.pair counted.1)
  write_counted old new Stopped since counted faults = (stops_rise old.pair new.pair since counted, faults)

  read_counted : {T E : Type 0} (old new : Mirrored A B) (read : Result T E) → SameStops a b (old.pair.first, old.pair.second) new.pair
      → new.faults ≡ (if is_err read then risen old.faults else old.faults) → OnOk read (Still faults_of (stops_in a b) old new) × OnErr read (RoseAlone faults_of (stops_in a b) old new)
  read_counted old new (Ok x) same faults = ((faults, same_stops old.pair new.pair same), tt)
  read_counted old new (Err e) same faults = (tt, (subst (Rose old.faults) (sym faults) (Rose-risen old.faults), same_stops old.pair new.pair same))

  -- its moments are those of both
  of_pairs : (old new : Mirrored A B) (IsSuch : List ℕ → Type 0) → Leaves a b old.pair new.pair IsSuch → LeavesOnly moment_of (LeftSinceOf a b) old new IsSuch
  of_pairs old new IsSuch leaves = record { later = leaves.later; each = leaves.each; adds_only = leaves.adds_only; keeps = leaves.keeps }

  -- a call keeps what holds between two calls
  pub mirror_on : (old new : Mirrored A B) → IsMirror a b old → GoesOn a b old.pair new.pair → new.mark_failed ≡ old.mark_failed
      → IsHeld a b new.in_use new.pair → KeepsExcuse a b old.in_use old.pair new.pair new.in_use → IsMirror a b new
  mirror_on old new was goes mark held keeps = record {
    held = held;
    since = subst (λ opening. IsSince a b opening new.pair) (sym goes.same_opening) (since_on a b (opening_of old.pair) old.pair new.pair was.since goes);
    excused =
        subst (λ opening. IsExcused a b new.mark_failed opening new.pair new.in_use) (sym goes.same_opening)
        (subst (λ mark_failed. IsExcused a b mark_failed (opening_of old.pair) new.pair new.in_use) (sym mark) (keeps old.mark_failed (opening_of old.pair) was.since was.excused));
  }

  -- and a call that fails has a cause since the opening
  has_cause : (old : Mirrored A B) (new : Pair A B) → IsMirror a b old → GoesOn a b old.pair new → HasCause a b old.in_use old.pair new → MayFail a b old.mark_failed (opening_of new) new
  has_cause old new was goes cause =
      subst (λ opening. MayFail a b old.mark_failed opening new) (sym goes.same_opening) (cause old.mark_failed (opening_of old.pair) was.since was.excused)

  -- ---- calls of the mirror

  keeps_rules : (old new : Mirrored A B) (failed : Bool) → old.faults ≤ 2 ^ 64 - 1 → GoesOn a b old.pair new.pair → new.mark_failed ≡ old.mark_failed → new.faults ≡ (if failed then risen old.faults else old.faults)
      → LeavesOut old.in_use old.pair new.pair new.in_use → (new.in_use ≡ Unread → LastReadFailed a b new.pair) → KeepsRules a b old new
  keeps_rules old new failed bound goes mark faults out last = record {
    size = goes.first_size;
    fault_count = counted_grows old.faults new.faults failed bound faults;
    stop_count = stops_grow old.pair new.pair goes.counts;
    opening = record { opening = goes.same_opening; mark = mark };
    out = out;
    last = last;
  }

  pub reads_both : (old : Mirrored A B) (pair : Pair A B) (faults at : ℕ) (into filled : List ℕ) (end : ReadEnd) → old.faults ≤ 2 ^ 64 - 1 → IsMirror a b old → ReadsInUse a b old.in_use old.pair pair at into filled end
      → faults ≡ (if is_err end.read then risen old.faults else old.faults) → ReadsBoth a b old (record { pair = pair; in_use = end.in_use; mark_failed = old.mark_failed; faults = faults }) at into filled end.read
  reads_both old pair faults at into filled end bound was reads is =
      let new : Mirrored A B = record { pair = pair; in_use = end.in_use; mark_failed = old.mark_failed; faults = faults } in
      let keeps = reads.piece.keeps in
      let counted = read_counted old new end.read reads.piece.stops is in
      record {
        read = reads.piece.read;
        kept = same_bytes a b old.pair pair keeps;
        moments = λ told. of_pairs old new (λ image. image ≡ bytes_of a b old.pair) (keeps.moments told);
        done = counted.0;
        failed = counted.1;
        rules = keeps_rules old new (is_err end.read) bound keeps.goes_on refl is reads.in_use.out reads.in_use.last;
        why = to_err end.read (λ failed. record { fault = reads.in_use.fault failed; cause = has_cause old pair was keeps.goes_on (reads.in_use.cause failed) });
        stays = reads.stays;
      }

  pub writes_both : (old : Mirrored A B) (pair : Pair A B) (faults at : ℕ) (bytes : List ℕ) (ended : Ended) → old.faults ≤ 2 ^ 64 - 1 → IsMirror a b old → WritesInUse a b old.in_use old.pair pair at bytes ended
      → faults ≡ (if fails ended.written then risen old.faults else old.faults) → WritesBoth a b old (record { pair = pair; in_use = ended.in_use; mark_failed = old.mark_failed; faults = faults }) at bytes ended.written
  writes_both old pair faults at bytes ended bound was writes is =
      let new : Mirrored A B = record { pair = pair; in_use = ended.in_use; mark_failed = old.mark_failed; faults = faults } in
      let holds = writes.writes.holds in
      record {
        done = writes.writes.done;
        torn = holds.bytes;
        moments = λ told. of_pairs old new (Torn at (length bytes) (bytes_of a b old.pair)) (holds.moments told);
        counted = write_counted old new ended.written holds.goes_on.counts writes.writes.counted is;
        rules = keeps_rules old new (fails ended.written) bound holds.goes_on refl is writes.in_use.out writes.in_use.last;
        why = λ failed. record { fault = writes.in_use.fault failed; cause = has_cause old pair was holds.goes_on (writes.in_use.cause failed) };
        once = writes.once;
      }
