-- Calls that change no byte of two banks, and how what calls leave of both goes on over two in a row.
use Rattle.std.proofs.Common.{◌≡◌, ⊎_elim, true, length, take, List, ℕ, refl, sym, ◌∙◌, ap, subst}
use Rattle.std.specs.Prelude.{Result, Ok, Err}
use Rattle.tbl_outside.specs.declared.bank.Bank.{Ghosts}
use Rattle.tbl_outside.proofs.Moments.{goes_on, leaves_among}
use Rattle.bank_mirror.specs.declared.in_use.InUse.{InUse}
use Rattle.bank_mirror.specs.declared.in_use.InUse.TheVariants.{Both, FirstOut, SecondOut, Unread}
use Rattle.bank_mirror.specs.Pairs.{Pair, BothTell, BothTellMoments, is_stale, is_marked, front_of, bytes_of, pair_of}
use Rattle.bank_mirror.specs.Counts.{BothStill}
use Rattle.bank_mirror.specs.Calls.{CallsFirst, CallsSecond}
use Rattle.bank_mirror.specs.BanksInUse.{IsHeld}
use Rattle.bank_mirror.specs.Kept.{HoldsOnly, Keeps, MovesMark, Looks}
use Rattle.bank_mirror.proofs.Bytes.{pair-stale, pair-either, of_first-same, of_second-same}
use Rattle.bank_mirror.proofs.Excuses.{goes_twice, fails_since, still_twice}

module _ {A B : Type 0} (a : Ghosts A) (b : Ghosts B) where
  -- ---- calls that change no byte

  pub first_keeps : (old new : Pair A B) → (a.tells → a.now new.first ≡ a.now old.first) → CallsFirst a b old new (λ x. x ≡ a.now old.first) → Keeps a b old new
  first_keeps old new kept calls = record {
    kept = λ told. (kept told.0, ap b.now calls.other);
    moments = λ told. leaves_among (calls.moments told) (of_first-same (a.now old.first) (b.now old.second));
    goes_on = calls.goes_on;
  }

  pub second_keeps : (old new : Pair A B) → (b.tells → b.now new.second ≡ b.now old.second) → CallsSecond a b old new (λ y. y ≡ b.now old.second) → Keeps a b old new
  second_keeps old new kept calls = record {
    kept = λ told. (ap a.now calls.other, kept told.1);
    moments = λ told. leaves_among (calls.moments told) (of_second-same (a.now old.first) (b.now old.second));
    goes_on = calls.goes_on;
  }

  pub same_bytes : (old new : Pair A B) → Keeps a b old new → BothTell a b → bytes_of a b new ≡ bytes_of a b old
  same_bytes old new keeps told = λ i. pair_of ((keeps.kept told).0 i) ((keeps.kept told).1 i)

  pub same_mark : (old new : Pair A B) → Keeps a b old new → BothTell a b → is_marked a b new ≡ is_marked a b old
  same_mark old new keeps told = λ i. is_stale (length ((keeps.kept told).0 i)) ((keeps.kept told).1 i)

  pub kept_front : (old new : Pair A B) → Keeps a b old new → BothTell a b → front_of a b new ≡ front_of a b old
  kept_front old new keeps told = λ i. take (length ((keeps.kept told).0 i)) ((keeps.kept told).1 i)

  pub keeps_twice : (BothTellMoments a b → BothTell a b) → (old mid new : Pair A B) → Keeps a b old mid → Keeps a b mid new → Keeps a b old new
  keeps_twice both old mid new one two = record {
    kept = λ told. ((two.kept told).0 ∙ (one.kept told).0, (two.kept told).1 ∙ (one.kept told).1);
    moments = λ told. goes_on (one.moments told) (two.moments told) (λ image is. is ∙ same_bytes old mid one (both told));
    goes_on = goes_twice a b old mid new one.goes_on two.goes_on;
  }

  pub looks_twice : {T E : Type 0} → (BothTellMoments a b → BothTell a b) → (old mid new : Pair A B) (result : Result T E) → Keeps a b old mid → BothStill a b (old.first, old.second) mid
      → Looks a b mid new result → Looks a b old new result
  looks_twice both old mid new (Ok x) keeps still looks = record {
    keeps = keeps_twice both old mid new keeps looks.keeps;
    done = still_twice a b (old.first, old.second) mid new still looks.done;
    failed = tt;
    last = tt;
  }
  looks_twice both old mid new (Err e) keeps still looks = record {
    keeps = keeps_twice both old mid new keeps looks.keeps;
    done = tt;
    failed = fails_since a b (old.first, old.second) mid new keeps.goes_on.counts looks.failed;
    last = looks.last;
  }

  pub held_on : (in_use : InUse) (old new : Pair A B) → Keeps a b old new → IsHeld a b in_use old → IsHeld a b in_use new
  held_on Both old new keeps held told = (
    same_mark old new keeps told ∙ (held told).0,
    (λ i. take (length ((keeps.kept told).0 i)) ((keeps.kept told).1 i)) ∙ (held told).1 ∙ sym (keeps.kept told).0,
  )
  held_on FirstOut old new keeps held told = same_mark old new keeps told ∙ held told
  held_on SecondOut old new keeps held told = same_mark old new keeps told ∙ held told
  held_on Unread old new keeps held told = tt

  -- ---- calls that leave only such bytes

  pub keeps_holds : (old new : Pair A B) (IsSuch : List ℕ → Type 0) → IsSuch (bytes_of a b old) → Keeps a b old new → HoldsOnly a b old new IsSuch
  keeps_holds old new IsSuch was keeps = record {
    bytes = λ told. subst IsSuch (sym (same_bytes old new keeps told)) was;
    moments = λ told. leaves_among (keeps.moments told) (λ image is. subst IsSuch (sym is) was);
    goes_on = keeps.goes_on;
  }

  -- such bytes are known by another name
  pub holds_as : (BothTellMoments a b → BothTell a b) → (old new : Pair A B) (IsSuch IsAmong : List ℕ → Type 0)
      → HoldsOnly a b old new IsSuch → (BothTell a b → (image : List ℕ) → IsSuch image → IsAmong image) → HoldsOnly a b old new IsAmong
  holds_as both old new IsSuch IsAmong holds among = record {
    bytes = λ told. among told (bytes_of a b new) (holds.bytes told);
    moments = λ told. leaves_among (holds.moments told) (among (both told));
    goes_on = holds.goes_on;
  }

  pub holds_twice : (BothTellMoments a b → BothTell a b) → (old mid new : Pair A B) (IsSuch IsNext : List ℕ → Type 0)
      → HoldsOnly a b old mid IsSuch → HoldsOnly a b mid new IsNext → (BothTell a b → (image : List ℕ) → IsNext image → IsSuch image) → HoldsOnly a b old new IsSuch
  holds_twice both old mid new IsSuch IsNext one two among = record {
    bytes = λ told. among told (bytes_of a b new) (two.bytes told);
    moments = λ told. goes_on (one.moments told) (two.moments told) (among (both told));
    goes_on = goes_twice a b old mid new one.goes_on two.goes_on;
  }

  -- no byte changes after such a call
  pub holds_kept : (BothTellMoments a b → BothTell a b) → (old mid new : Pair A B) (IsSuch : List ℕ → Type 0) → HoldsOnly a b old mid IsSuch → Keeps a b mid new → HoldsOnly a b old new IsSuch
  holds_kept both old mid new IsSuch one keeps = holds_twice both old mid new IsSuch (λ image. image ≡ bytes_of a b mid) one (keeps_holds mid new (λ image. image ≡ bytes_of a b mid) refl keeps)
      (λ told image is. subst IsSuch (sym is) (one.bytes told))

  -- the mark is taken away where both hold the same
  pub mark_holds : (BothTellMoments a b → BothTell a b) → (old new : Pair A B) → (BothTell a b → is_marked a b old ≡ true) → (BothTell a b → front_of a b old ≡ a.now old.first)
      → MovesMark a b old new → HoldsOnly a b old new (λ image. image ≡ bytes_of a b old)
  mark_holds both old new marked same moves = record {
    bytes = λ told. ⊎_elim (λ is. is ∙ ap a.now moves.other ∙ sym (same told) ∙ sym (front_is told)) (λ is. is ∙ moves.front told ∙ sym (front_is told)) (pair-either (a.now new.first) (b.now new.second));
    moments = λ told. leaves_among (moves.moments told) (λ image. ⊎_elim (λ is. is ∙ sym (same (both told)) ∙ sym (front_is (both told))) (λ is. is ∙ sym (front_is (both told))));
    goes_on = moves.goes_on;
  } where
    front_is : BothTell a b → bytes_of a b old ≡ front_of a b old
    front_is told = pair-stale (a.now old.first) (b.now old.second) (marked told)
