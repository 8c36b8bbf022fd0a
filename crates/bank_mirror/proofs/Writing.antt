-- Writes to one of two banks, or to the mark, and what they leave of both.
use Rattle.std.proofs.Common.{◌≡◌, inl, inr, ⊎_elim, ◌+◌, ◌≤◌, true, false, length, take, List, ℕ, refl, sym, ◌∙◌, ap, subst, arith}
use Rattle.tbl_kinds.specs.Numbers.{patched}
use Rattle.tbl_outside.specs.declared.bank.Bank.{Ghosts}
use Rattle.tbl_outside.specs.declared.bank.Written.{Written}
use Rattle.tbl_outside.specs.declared.bank.Written.TheVariants.{Done, Failed, Stopped}
use Rattle.tbl_outside.specs.Bank.{Torn}
use Rattle.tbl_outside.specs.Counts.{Counted}
use Rattle.tbl_outside.proofs.Moments.{leaves_among}
use Rattle.bank_mirror.specs.Pairs.{Pair, BothTell, BothTellMoments, is_stale, is_marked, front_of, bytes_of, pair_of}
use Rattle.bank_mirror.specs.Counts.{SameStops, GoesOn, WriteCounted}
use Rattle.bank_mirror.specs.Calls.{WritesBank, CallsFirst, CallsSecond, WritesFirst, WritesSecond}
use Rattle.bank_mirror.specs.Kept.{HoldsOnly, Keeps, MovesMark, Writes, LeavesInUse}
use Rattle.bank_mirror.proofs.Bytes.{pair-fresh, pair-stale, pair-either, mark_kept, front-patched, of_first-fresh, of_first-stale, of_second-fresh, of_second-stale, torn_either}
use Rattle.bank_mirror.proofs.Calling.{keeps_holds, holds_as, holds_twice}
use Rattle.bank_mirror.proofs.Excuses.{first_counted, second_counted, counted_after, counted_before, since_on, first_fails, second_fails, first_failed_on, one_stops}
use Rattle.bank_mirror.specs.declared.in_use.InUse.TheVariants.{Both, SecondOut}
use Rattle.bank_mirror.specs.declared.writes.Ended.{Ended}
use Rattle.bank_mirror.specs.CallsInUse.{CanReach, WritesInUse, WritesMarked, ended_by}

module _ {A B : Type 0} (a : Ghosts A) (b : Ghosts B) (both : BothTellMoments a b → BothTell a b) where
  -- what was there is known by another name
  pub torn_as : (old new : Pair A B) (at count : ℕ) (was other : List ℕ) → (BothTell a b → was ≡ other)
      → HoldsOnly a b old new (Torn at count was) → HoldsOnly a b old new (Torn at count other)
  torn_as old new at count was other same holds = holds_as a b both old new (Torn at count was) (Torn at count other) holds
      (λ told image. subst (λ (l : List ℕ). Torn at count l image) (same told))

  pub writes_as : (old new : Pair A B) (at : ℕ) (bytes was other : List ℕ) (written : Written) → (BothTell a b → was ≡ other)
      → Writes a b old new at bytes was written → Writes a b old new at bytes other written
  writes_as old new at bytes was other written same writes = record {
    done = λ is told. writes.done is told ∙ ap (λ (l : List ℕ). patched l at bytes) (same told);
    holds = torn_as old new at (length bytes) was other same writes.holds;
    counted = writes.counted;
  }

  -- after a call that left only what the write may leave, and stopped neither
  pub writes_after : (old mid new : Pair A B) (at : ℕ) (bytes was other : List ℕ) (written : Written) → HoldsOnly a b old mid (Torn at (length bytes) other) → SameStops a b (old.first, old.second) mid
      → (BothTell a b → was ≡ other) → Writes a b mid new at bytes was written → Writes a b old new at bytes other written
  writes_after old mid new at bytes was other written before stops same writes = record {
    done = λ is told. writes.done is told ∙ ap (λ (l : List ℕ). patched l at bytes) (same told);
    holds = holds_twice a b both old mid new (Torn at (length bytes) other) (Torn at (length bytes) was) before writes.holds
        (λ told image. subst (λ (l : List ℕ). Torn at (length bytes) l image) (same told));
    counted = counted_after a b old mid new written before.goes_on stops.0 stops.1 writes.counted;
  }

  -- ---- a write of the first, where the mark isn't set

  pub first_mark : (old new : Pair A B) (at count : ℕ) → (a.tells → Torn at count (a.now old.first) (a.now new.first)) → new.second ≡ old.second → BothTell a b → is_marked a b new ≡ is_marked a b old
  first_mark old new at count torn other told =
      ap (λ bank. is_stale (length (a.now new.first)) (b.now bank)) other ∙ ap (λ n. is_stale n (b.now old.second)) (torn told.0).same_length

  pub first_torn : (old new : Pair A B) (at count : ℕ) → (BothTell a b → is_marked a b old ≡ false)
      → (a.tells → Torn at count (a.now old.first) (a.now new.first)) → CallsFirst a b old new (Torn at count (a.now old.first))
      → HoldsOnly a b old new (Torn at count (a.now old.first))
  first_torn old new at count fresh torn calls = record {
    bytes = λ told. of_first-fresh at count (a.now old.first) (b.now old.second) (bytes_of a b new) (fresh told)
        (a.now new.first, torn told.0, ap (λ bank. pair_of (a.now new.first) (b.now bank)) calls.other);
    moments = λ told. leaves_among (calls.moments told) (λ image. of_first-fresh at count (a.now old.first) (b.now old.second) image (fresh (both told)));
    goes_on = calls.goes_on;
  }

  -- where the mark is set, the pair is the second's front
  pub first_hidden : (old new : Pair A B) (at count : ℕ) → (BothTell a b → is_marked a b old ≡ true)
      → (a.tells → Torn at count (a.now old.first) (a.now new.first)) → CallsFirst a b old new (Torn at count (a.now old.first))
      → HoldsOnly a b old new (λ image. image ≡ front_of a b old)
  first_hidden old new at count stale torn calls = record {
    bytes = λ told. of_first-stale at count (a.now old.first) (b.now old.second) (bytes_of a b new) (stale told)
        (a.now new.first, torn told.0, ap (λ bank. pair_of (a.now new.first) (b.now bank)) calls.other);
    moments = λ told. leaves_among (calls.moments told) (λ image. of_first-stale at count (a.now old.first) (b.now old.second) image (stale (both told)));
    goes_on = calls.goes_on;
  }

  pub first_writes : (old new : Pair A B) (at : ℕ) (bytes : List ℕ) (written : Written) → (BothTell a b → is_marked a b old ≡ false)
      → WritesBank a old.first new.first at bytes written → CallsFirst a b old new (Torn at (length bytes) (a.now old.first)) → Writes a b old new at bytes (a.now old.first) written
  first_writes old new at bytes written fresh writes calls = record {
    done = λ is told. pair-fresh (a.now new.first) (b.now new.second) (first_mark old new at (length bytes) writes.torn calls.other told ∙ fresh told) ∙ writes.done is told.0;
    holds = first_torn old new at (length bytes) fresh writes.torn calls;
    counted = first_counted a b old new written calls.other writes.counted;
  }

  pub first_held : (old new : Pair A B) (at count : ℕ) → (BothTell a b → is_marked a b old ≡ false) → (a.tells → Torn at count (a.now old.first) (a.now new.first)) → new.second ≡ old.second
      → BothTell a b → is_marked a b new ≡ false
  first_held old new at count fresh torn other told = first_mark old new at count torn other told ∙ fresh told

  -- ---- a write of the second's front

  module _ (whole : (bank : A) → a.tells → length (a.now bank) ≡ a.size bank) where
    within : (old : Pair A B) (at count : ℕ) → at + count ≤ a.size old.first → BothTell a b → at + count ≤ length (a.now old.first)
    within old at count room told = omega (arith, whole old.first told.0, room)

    -- the mark is as it was
    pub mark_stays : (old new : Pair A B) (at count : ℕ) → at + count ≤ a.size old.first → (b.tells → Torn at count (b.now old.second) (b.now new.second)) → new.first ≡ old.first
        → BothTell a b → is_marked a b new ≡ is_marked a b old
    mark_stays old new at count room torn other told =
        ap (λ bank. is_stale (length (a.now bank)) (b.now new.second)) other
        ∙ mark_kept at count (length (a.now old.first)) (b.now old.second) (b.now new.second) (torn told.1) (within old at count room told)

    -- where the mark isn't set, and where it is
    pub second_hidden : (old new : Pair A B) (at count : ℕ) → at + count ≤ a.size old.first → (BothTell a b → is_marked a b old ≡ false)
        → (b.tells → Torn at count (b.now old.second) (b.now new.second)) → CallsSecond a b old new (Torn at count (b.now old.second))
        → HoldsOnly a b old new (λ image. image ≡ a.now old.first)
    second_hidden old new at count room fresh torn calls = record {
      bytes = λ told. of_second-fresh at count (a.now old.first) (b.now old.second) (bytes_of a b new) (within old at count room told) (fresh told)
          (b.now new.second, torn told.1, ap (λ bank. pair_of (a.now bank) (b.now new.second)) calls.other);
      moments = λ told. leaves_among (calls.moments told) (λ image. of_second-fresh at count (a.now old.first) (b.now old.second) image (within old at count room (both told)) (fresh (both told)));
      goes_on = calls.goes_on;
    }

    second_torn : (old new : Pair A B) (at count : ℕ) → at + count ≤ a.size old.first → (BothTell a b → is_marked a b old ≡ true)
        → (b.tells → Torn at count (b.now old.second) (b.now new.second)) → CallsSecond a b old new (Torn at count (b.now old.second))
        → HoldsOnly a b old new (Torn at count (front_of a b old))
    second_torn old new at count room marked torn calls = record {
      bytes = λ told. of_second-stale at count (a.now old.first) (b.now old.second) (bytes_of a b new) (within old at count room told) (marked told)
          (b.now new.second, torn told.1, ap (λ bank. pair_of (a.now bank) (b.now new.second)) calls.other);
      moments = λ told. leaves_among (calls.moments told) (λ image. of_second-stale at count (a.now old.first) (b.now old.second) image (within old at count room (both told)) (marked (both told)));
      goes_on = calls.goes_on;
    }

    -- the front after it
    pub front_written : (old new : Pair A B) (at : ℕ) (bytes : List ℕ) → at + length bytes ≤ a.size old.first → length (a.now old.first) ≤ length (b.now old.second) → new.first ≡ old.first
        → BothTell a b → b.now new.second ≡ patched (b.now old.second) at bytes → front_of a b new ≡ patched (front_of a b old) at bytes
    front_written old new at bytes room larger other told done =
        (λ i. take (length (a.now (other i))) (done i)) ∙ front-patched (length (a.now old.first)) at (b.now old.second) bytes (within old at (length bytes) room told) larger

    pub second_writes : (old new : Pair A B) (at : ℕ) (bytes : List ℕ) (written : Written) → at + length bytes ≤ a.size old.first → (BothTell a b → length (a.now old.first) ≤ length (b.now old.second))
        → (BothTell a b → is_marked a b old ≡ true) → WritesBank b old.second new.second at bytes written → CallsSecond a b old new (Torn at (length bytes) (b.now old.second))
        → Writes a b old new at bytes (front_of a b old) written
    second_writes old new at bytes written room larger marked writes calls = record {
      done = λ is told. pair-stale (a.now new.first) (b.now new.second) (mark_stays old new at (length bytes) room writes.torn calls.other told ∙ marked told)
          ∙ front_written old new at bytes room (larger told) calls.other told (writes.done is told.1);
      holds = second_torn old new at (length bytes) room marked writes.torn calls;
      counted = second_counted a b old new written calls.other writes.counted;
    }

  -- ---- a write of the mark, after a write of the first that broke off

  pub mark_torn : (old new : Pair A B) (at count : ℕ) → (BothTell a b → Torn at count (front_of a b old) (a.now old.first))
      → MovesMark a b old new → HoldsOnly a b old new (Torn at count (front_of a b old))
  mark_torn old new at count torn moves = record {
    bytes = λ told. torn_either at count (front_of a b old) (a.now old.first) (bytes_of a b new) (torn told)
        (⊎_elim (λ is. inl (is ∙ ap a.now moves.other)) (λ is. inr (is ∙ moves.front told)) (pair-either (a.now new.first) (b.now new.second)));
    moments = λ told. leaves_among (moves.moments told) (λ image. torn_either at count (front_of a b old) (a.now old.first) image (torn (both told)));
    goes_on = moves.goes_on;
  }

  -- a write of the mark broke off, and then no byte changed
  pub mark_broke : (old mid new : Pair A B) (at : ℕ) (bytes : List ℕ) (written : Written) → (BothTell a b → Torn at (length bytes) (front_of a b old) (a.now old.first)) → MovesMark a b old mid → Keeps a b mid new
      → SameStops a b (mid.first, mid.second) new → (written ≡ Done → ⊥) → Counted b.faults b.stops old.second mid.second written → Writes a b old new at bytes (front_of a b old) written
  mark_broke old mid new at bytes written torn moves keeps stops broke counted =
      let before = mark_torn old mid at (length bytes) torn moves in
      record {
        done = λ is. absurd (broke is);
        holds = holds_twice a b both old mid new (Torn at (length bytes) (front_of a b old)) (λ image. image ≡ bytes_of a b mid) before
            (keeps_holds a b mid new (λ image. image ≡ bytes_of a b mid) refl keeps) (λ told image is. subst (Torn at (length bytes) (front_of a b old)) (sym is) (before.bytes told));
        counted = counted_before a b old mid new written moves.goes_on keeps.goes_on stops (second_counted a b old mid written moves.other counted);
      }

-- ---- A write to both banks: to the first, and then to the second as the first's ended.

module _ {A B : Type 0} (a : Ghosts A) (b : Ghosts B) (both : BothTellMoments a b → BothTell a b) (old mid : Pair A B) (at : ℕ) (bytes : List ℕ) (reach : CanReach a b Both old at bytes) where
  fresh : BothTell a b → is_marked a b old ≡ false
  fresh told = (reach.held told).0

  same : BothTell a b → a.now old.first ≡ bytes_of a b old
  same told = sym (pair-fresh (a.now old.first) (b.now old.second) (fresh told))

  before : (written : Written) → WritesFirst a b old mid at bytes written → HoldsOnly a b old mid (Torn at (length bytes) (a.now old.first))
  before written one = first_torn a b both old mid at (length bytes) fresh one.writes.torn one.calls

  front_is : (written : Written) → WritesFirst a b old mid at bytes written → BothTell a b → front_of a b mid ≡ a.now old.first
  front_is written one told = ap (λ bank. take (length (a.now mid.first)) (b.now bank)) one.calls.other ∙ ap (λ n. take n (b.now old.second)) (one.writes.torn told.0).same_length ∙ (reach.held told).1

  held_still : (written : Written) → WritesFirst a b old mid at bytes written → BothTell a b → is_marked a b mid ≡ false
  held_still written one = first_held a b both old mid at (length bytes) fresh one.writes.torn one.calls.other

  -- the second was written too: what it took changes nothing of what both hold as one
  pub first_done : ((bank : A) → a.tells → length (a.now bank) ≡ a.size bank) → ((bank : B) → b.tells → length (b.now bank) ≡ b.size bank) → WritesFirst a b old mid at bytes Done
      → (new : Pair A B) (second : Written) → WritesSecond a b mid new at bytes second → WritesInUse a b Both old new at bytes (ended_by second)
  first_done whole whole_too one new second two = record {
    writes = writes_as a b both old new at bytes (a.now old.first) (bytes_of a b old) (ended_by second).written same (record {
      done = λ is told. too.bytes told ∙ one.writes.done refl told.0;
      holds = holds_twice a b both old mid new (Torn at (length bytes) (a.now old.first)) (λ image. image ≡ a.now mid.first) (before Done one) too
          (λ told image is. subst (Torn at (length bytes) (a.now old.first)) (sym is) (one.writes.torn told.0));
      counted = counted_after a b old mid new (ended_by second).written one.calls.goes_on one.writes.counted.1 (ap b.stops one.calls.other) (counted second two);
    });
    in_use = in_use second two;
    once = λ _ told. ap a.calls two.calls.other ∙ one.once (subst a.tells_calls two.calls.other told);
  } where
    room : at + length bytes ≤ a.size mid.first
    room = omega (arith, reach.room, one.calls.goes_on.first_size)

    too : HoldsOnly a b mid new (λ image. image ≡ a.now mid.first)
    too = second_hidden a b both whole mid new at (length bytes) room (held_still Done one) two.writes.torn two.calls

    counted : (second : Written) → WritesSecond a b mid new at bytes second → WriteCounted a b (mid.first, mid.second) new (ended_by second).written
    counted Done two = (ap a.stops two.calls.other, two.writes.counted.1)
    counted Failed two = (ap a.stops two.calls.other, two.writes.counted.1)
    counted Stopped two = inr two.writes.counted.0

    mark : BothTell a b → is_marked a b new ≡ false
    mark told = mark_stays a b both whole mid new at (length bytes) room two.writes.torn two.calls.other told ∙ held_still Done one told

    front : b.tells → WritesSecond a b mid new at bytes Done → BothTell a b → front_of a b new ≡ a.now new.first
    front tells two told =
        let larger : length (a.now mid.first) ≤ length (b.now mid.second) = omega (arith, whole mid.first told.0, whole_too mid.second told.1, two.larger) in
        front_written a b both whole mid new at bytes room larger two.calls.other told (two.writes.done refl tells)
        ∙ ap (λ (l : List ℕ). patched l at bytes) (front_is Done one told) ∙ sym (one.writes.done refl told.0) ∙ sym (ap a.now two.calls.other)

    in_use : (second : Written) → WritesSecond a b mid new at bytes second → LeavesInUse a b Both old new ((ended_by second).written ≡ Failed) (ended_by second).in_use
    in_use Done two = record { held = λ told. (mark told, front told.1 two told); excuse = λ mark_failed opening since excused. tt; out = tt; last = λ is. absurd (cc is); fault = λ is. absurd (cc is); cause = λ is. absurd (cc is) }
    in_use Failed two = record {
      held = mark;
      excuse = λ mark_failed opening since excused. inl (second_fails a b opening mid new (since_on a b opening old mid since one.calls.goes_on) two.writes.counted.0);
      out = tt;
      last = λ is. absurd (cc is);
      fault = λ is. absurd (cc is);
      cause = λ is. absurd (cc is);
    }
    in_use Stopped two = record {
      held = mark;
      excuse = λ mark_failed opening since excused. inr (inl (one_stops a b opening mid new (since_on a b opening old mid since one.calls.goes_on) (inr two.writes.counted.0)));
      out = tt;
      last = λ is. absurd (cc is);
      fault = λ is. absurd (cc is);
      cause = λ is. absurd (cc is);
    }

  -- the first failed, and the mark and the second were written after it
  pub first_failed : WritesFirst a b old mid at bytes Failed → (new : Pair A B) (ended : Ended) → WritesMarked a b mid new at bytes ended → WritesInUse a b Both old new at bytes ended
  first_failed one new ended marked = record {
    writes = writes_after a b both old mid new at bytes (front_of a b mid) (bytes_of a b old) ended.written
        (torn_as a b both old mid at (length bytes) (a.now old.first) (bytes_of a b old) same (before Failed one))
        (one.writes.counted.1, ap b.stops one.calls.other) (λ told. front_is Failed one told ∙ same told) marked.writes;
    in_use = record {
      held = marked.held;
      excuse = λ mark_failed opening since excused. marked.excuse mark_failed opening (since_on a b opening old mid since goes) (first_fails a b opening old mid since one.writes.counted.0);
      out = tt;
      last = marked.last;
      fault = λ is. inr (second_fails a b (old.first, old.second) mid new goes.counts (marked.failed is));
      cause = λ is mark_failed opening since excused.
          let later = since_on a b opening old mid since goes in
          inl (first_failed_on a b opening mid new later marked.writes.holds.goes_on (first_fails a b opening old mid since one.writes.counted.0), second_fails a b opening mid new later (marked.failed is));
    };
    once = λ _ told. ap a.calls marked.other ∙ one.once (subst a.tells_calls marked.other told);
  } where
    goes : GoesOn a b old mid
    goes = one.calls.goes_on

  pub first_stopped : WritesFirst a b old mid at bytes Stopped → WritesInUse a b Both old mid at bytes (record { written = Stopped; in_use = SecondOut })
  first_stopped one = record {
    writes = writes_as a b both old mid at bytes (a.now old.first) (bytes_of a b old) Stopped same (first_writes a b both old mid at bytes Stopped fresh one.writes one.calls);
    in_use = record {
      held = held_still Stopped one;
      excuse = λ mark_failed opening since excused. inr (inl (one_stops a b opening old mid since (inl one.writes.counted.0)));
      out = tt;
      last = λ is. absurd (cc is);
      fault = λ is. absurd (cc is);
      cause = λ is. absurd (cc is);
    };
    once = λ _. one.once;
  }
