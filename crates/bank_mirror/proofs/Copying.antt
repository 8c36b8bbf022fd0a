-- The copy of the good one of two banks over the other, over several pieces.
use Rattle.std.proofs.Common.{◌≡◌, ◌+◌, ◌≤◌, ℕ, false, true, length, refl, sym, ◌∙◌, ap}
use Rattle.std.specs.Prelude.{Result, Ok, Err}
use Rattle.tbl_outside.specs.declared.bank.Bank.{Ghosts}
use Rattle.tbl_outside.specs.declared.bank.Written.{Written}
use Rattle.tbl_outside.specs.declared.bank.Written.TheVariants.{Done, Failed, Stopped}
use Rattle.tbl_outside.specs.Bank.{Torn}
use Rattle.bank_mirror.specs.declared.in_use.Alone.{Alone}
use Rattle.bank_mirror.specs.declared.in_use.Alone.TheVariants.{First, Second}
use Rattle.bank_mirror.specs.Pairs.{Pair, BothTell, BothTellMoments, is_marked, bytes_of, shown_by}
use Rattle.bank_mirror.specs.Counts.{GoesOn}
use Rattle.bank_mirror.specs.Calls.{CallsFirst, CallsSecond}
use Rattle.bank_mirror.specs.BanksInUse.{IsHeld, in_use_alone}
use Rattle.bank_mirror.specs.Kept.{Keeps}
use Rattle.bank_mirror.specs.Copies.{KeepsGood, Copies, EndsCopy}
use Rattle.bank_mirror.proofs.GoodOne.{shown_is}
use Rattle.bank_mirror.proofs.Calling.{held_on, keeps_holds, holds_as, holds_twice}
use Rattle.bank_mirror.proofs.Writing.{first_mark, first_hidden, mark_stays, second_hidden}
use Rattle.bank_mirror.proofs.Excuses.{first_fails, second_fails, one_stops}

module _ {A B : Type 0} (a : Ghosts A) (b : Ghosts B) where
  good_twice : (good : Alone) (old mid new : Pair A B) → KeepsGood a b good old mid → KeepsGood a b good mid new → KeepsGood a b good old new
  good_twice First old mid new one two = λ told. two told ∙ one told
  good_twice Second old mid new one two = λ told. two told ∙ one told

  good_kept : (good : Alone) (old new : Pair A B) → Keeps a b old new → KeepsGood a b good old new
  good_kept First old new keeps = λ told. (keeps.kept told).0
  good_kept Second old new keeps = λ told. (keeps.kept told).1

  pub copies_twice : (BothTellMoments a b → BothTell a b) → (good : Alone) (old mid new : Pair A B) → Copies a b good old mid → Copies a b good mid new → Copies a b good old new
  copies_twice both good old mid new one two = record {
    kept = good_twice good old mid new one.kept two.kept;
    held = two.held;
    holds = holds_twice a b both old mid new (λ image. image ≡ shown_by a b good old) (λ image. image ≡ shown_by a b good mid) one.holds two.holds
        (λ told image is. is ∙ sym (shown_is a b good mid one.held told) ∙ one.holds.bytes told);
  }

  -- a read of the good one
  pub read_copies : (BothTellMoments a b → BothTell a b) → (good : Alone) (old new : Pair A B) → Keeps a b old new → IsHeld a b (in_use_alone good) old → Copies a b good old new
  read_copies both good old new keeps held = record {
    kept = good_kept good old new keeps;
    held = held_on a b (in_use_alone good) old new keeps held;
    holds = holds_as a b both old new (λ image. image ≡ bytes_of a b old) (λ image. image ≡ shown_by a b good old) (keeps_holds a b old new (λ image. image ≡ bytes_of a b old) refl keeps) (λ told image is. is ∙ shown_is a b good old held told);
  }

  -- a write of the second, over which the first is copied
  pub over_copies : (BothTellMoments a b → BothTell a b) → ((bank : A) → a.tells → length (a.now bank) ≡ a.size bank) → (old new : Pair A B) (at count : ℕ) → at + count ≤ a.size old.first → (BothTell a b → is_marked a b old ≡ false)
      → (b.tells → Torn at count (b.now old.second) (b.now new.second)) → CallsSecond a b old new (Torn at count (b.now old.second)) → Copies a b First old new
  over_copies both whole old new at count room fresh torn calls = record {
    kept = λ told. ap a.now calls.other;
    held = λ told. mark_stays a b both whole old new at count room torn calls.other told ∙ fresh told;
    holds = second_hidden a b both whole old new at count room fresh torn calls;
  }

  -- a write of the first, over which the second's front is copied
  pub back_copies : (BothTellMoments a b → BothTell a b) → (old new : Pair A B) (at count : ℕ) → (BothTell a b → is_marked a b old ≡ true)
      → (a.tells → Torn at count (a.now old.first) (a.now new.first)) → CallsFirst a b old new (Torn at count (a.now old.first)) → Copies a b Second old new
  back_copies both old new at count stale torn calls = record {
    kept = λ told. ap b.now calls.other;
    held = λ told. first_mark a b both old new at count torn calls.other told ∙ stale told;
    holds = first_hidden a b both old new at count stale torn calls;
  }

  pub ends_since : {E : Type 0} (good : Alone) (old mid new : Pair A B) (result : Result Written E) → GoesOn a b old mid → EndsCopy a b good mid new result → EndsCopy a b good old new result
  ends_since good old mid new (Ok Done) goes ends = record { broke = tt; unread = tt; last = tt }
  ends_since First old mid new (Ok Failed) goes ends = record { broke = second_fails a b (old.first, old.second) mid new goes.counts ends.broke; unread = tt; last = tt }
  ends_since Second old mid new (Ok Failed) goes ends = record { broke = first_fails a b (old.first, old.second) mid new goes.counts ends.broke; unread = tt; last = tt }
  ends_since good old mid new (Ok Stopped) goes ends = record { broke = one_stops a b (old.first, old.second) mid new goes.counts ends.broke; unread = tt; last = tt }
  ends_since First old mid new (Err e) goes ends = record { broke = tt; unread = first_fails a b (old.first, old.second) mid new goes.counts ends.unread; last = ends.last }
  ends_since Second old mid new (Err e) goes ends = record { broke = tt; unread = second_fails a b (old.first, old.second) mid new goes.counts ends.unread; last = ends.last }
