-- One call of one of two banks: what it did to that one, and what a reset meanwhile leaves of both.
use Rattle.std.specs.Prelude.{◌≡◌, ℕ, ◌<◌, ◌∷◌, List, length, OnOk, OnErr, Result}
use Rattle.tbl_kinds.specs.Numbers.{piece, patched}
use Rattle.tbl_outside.specs.declared.bank.Bank.{Ghosts}
use Rattle.tbl_outside.specs.declared.bank.Written.{Written}
use Rattle.tbl_outside.specs.declared.bank.Written.TheVariants.{Done}
use Rattle.tbl_outside.specs.Bank.{Torn}
use Rattle.tbl_outside.specs.BankCalls.{write}
use Rattle.tbl_outside.specs.Counts.{Still, RoseAlone, Counted}
use Rattle.bank_mirror.specs.Pairs.{Pair, BothTellMoments}
use Rattle.bank_mirror.specs.Moments.{OfFirst, OfSecond, Leaves}
use Rattle.bank_mirror.specs.Counts.{GoesOn}
use Rattle.bank_mirror.specs.LastCalls.{LastReadFailed}
use Rattle.bank_mirror.specs.Kept.{Keeps}

module _ {X : Type 0} (g : Ghosts X) where
  -- a bank was read: its bytes stay, and a fault is all that is counted
  pub record ReadsBank {T E : Type 0} (old new : X) (at : ℕ) (into filled : List ℕ) (result : Result T E) : Type 0 where
    pub read : OnOk result (g.tells → filled ≡ piece at (length into) (g.now old))
    pub kept : g.tells → g.now new ≡ g.now old
    pub done : OnOk result (Still g.faults g.stops old new)
    pub failed : OnErr result (RoseAlone g.faults g.stops old new)

  -- a piece of a bank was written over
  pub record WritesBank (old new : X) (at : ℕ) (bytes : List ℕ) (written : Written) : Type 0 where
    pub done : written ≡ Done → g.tells → g.now new ≡ patched (g.now old) at bytes
    pub torn : g.tells → Torn at (length bytes) (g.now old) (g.now new)
    pub counted : Counted g.faults g.stops old new written

module _ {A B : Type 0} (a : Ghosts A) (b : Ghosts B) where
  -- the first alone was called, and a reset meanwhile left such images of it, beside the bytes of the second
  pub record CallsFirst (old new : Pair A B) (IsFirst : List ℕ → Type 0) : Type 0 where
    pub other : new.second ≡ old.second
    pub moments : BothTellMoments a b → Leaves a b old new (OfFirst IsFirst (b.now old.second))
    pub goes_on : GoesOn a b old new

  -- the second alone was called, and a reset meanwhile left such images of it, beside the bytes of the first
  pub record CallsSecond (old new : Pair A B) (IsSecond : List ℕ → Type 0) : Type 0 where
    pub other : new.first ≡ old.first
    pub moments : BothTellMoments a b → Leaves a b old new (OfSecond (a.now old.first) IsSecond)
    pub goes_on : GoesOn a b old new

  -- a read of the first alone, which was the last call of all if it failed
  pub record ReadsFirst {T E : Type 0} (old new : Pair A B) (at : ℕ) (into filled : List ℕ) (result : Result T E) : Type 0 where
    pub reads : ReadsBank a old.first new.first at into filled result
    pub other : new.second ≡ old.second
    pub keeps : Keeps a b old new
    pub last : OnErr result (LastReadFailed a b new)

  -- and of the second alone, which is the larger one
  pub record ReadsSecond {T E : Type 0} (old new : Pair A B) (at : ℕ) (into filled : List ℕ) (result : Result T E) : Type 0 where
    pub larger : a.size old.first < b.size old.second
    pub reads : ReadsBank b old.second new.second at into filled result
    pub other : new.first ≡ old.first
    pub keeps : Keeps a b old new
    pub last : OnErr result (LastReadFailed a b new)

  -- one write to the first alone, and to the second alone
  pub record WritesFirst (old new : Pair A B) (at : ℕ) (bytes : List ℕ) (written : Written) : Type 0 where
    pub writes : WritesBank a old.first new.first at bytes written
    pub calls : CallsFirst old new (Torn at (length bytes) (a.now old.first))
    pub once : a.tells_calls new.first → a.calls new.first ≡ write at bytes ∷ a.calls old.first

  pub record WritesSecond (old new : Pair A B) (at : ℕ) (bytes : List ℕ) (written : Written) : Type 0 where
    pub larger : a.size old.first < b.size old.second
    pub writes : WritesBank b old.second new.second at bytes written
    pub calls : CallsSecond old new (Torn at (length bytes) (b.now old.second))
