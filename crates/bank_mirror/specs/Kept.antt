-- What a call leaves of what two banks hold as one.
use Rattle.std.specs.Prelude.{◌≡◌, ◌⊎◌, ℕ, Bool, List, length, OnOk, OnErr, IfOk, Result}
use Rattle.tbl_kinds.specs.Numbers.{byte_at, piece, patched}
use Rattle.tbl_outside.specs.declared.bank.Bank.{Ghosts}
use Rattle.tbl_outside.specs.declared.bank.Written.{Written}
use Rattle.tbl_outside.specs.declared.bank.Written.TheVariants.{Done}
use Rattle.tbl_outside.specs.Bank.{Torn}
use Rattle.tbl_outside.specs.Counts.{Counted}
use Rattle.bank_mirror.specs.declared.in_use.Alone.{Alone}
use Rattle.bank_mirror.specs.declared.in_use.InUse.{InUse}
use Rattle.bank_mirror.specs.declared.in_use.InUse.TheVariants.{Unread}
use Rattle.bank_mirror.specs.Pairs.{Pair, BothTell, BothTellMoments, SameBytes, bytes_of, front_of}
use Rattle.bank_mirror.specs.Moments.{Leaves}
use Rattle.bank_mirror.specs.Counts.{GoesOn, BothStill, OneFailed, SameStops, WriteCounted, SecondFailed}
use Rattle.bank_mirror.specs.LastCalls.{LastReadFailed}
use Rattle.bank_mirror.specs.BanksInUse.{IsHeld, KeepsExcuse, LeavesOut, HasCause, in_use_alone}

module _ {A B : Type 0} (a : Ghosts A) (b : Ghosts B) where
  -- they hold such bytes as one afterwards, and a reset meanwhile leaves nothing else
  pub record HoldsOnly (old new : Pair A B) (IsSuch : List ℕ → Type 0) : Type 0 where
    pub bytes : BothTell a b → IsSuch (bytes_of a b new)
    pub moments : BothTellMoments a b → Leaves a b old new IsSuch
    pub goes_on : GoesOn a b old new

  -- no byte of either changes, and a reset meanwhile leaves what they hold as one
  pub record Keeps (old new : Pair A B) : Type 0 where
    pub kept : SameBytes a b old new
    pub moments : BothTellMoments a b → Leaves a b old new (λ image. image ≡ bytes_of a b old)
    pub goes_on : GoesOn a b old new

  -- a write of the mark, and of nothing else: what both hold as one is what the first holds, or the second's front
  pub record MovesMark (old new : Pair A B) : Type 0 where
    pub front : BothTell a b → front_of a b new ≡ front_of a b old
    pub other : new.first ≡ old.first
    pub moments : BothTellMoments a b → Leaves a b old new (λ image. (image ≡ a.now old.first) ⊎ (image ≡ front_of a b old))
    pub goes_on : GoesOn a b old new

  -- it was written as this byte, or the write broke off
  pub record WritesMark (old new : Pair A B) (mark : ℕ) (written : Written) : Type 0 where
    pub done : written ≡ Done → BothTell a b → byte_at (length (a.now new.first)) (b.now new.second) ≡ mark
    pub moves : MovesMark old new
    pub counted : Counted b.faults b.stops old.second new.second written

  -- a look at both changes no byte and counts nothing, or one of them failed in it, in the last call of all
  pub record Looks {T E : Type 0} (old new : Pair A B) (result : Result T E) : Type 0 where
    pub keeps : Keeps old new
    pub done : OnOk result (BothStill a b (old.first, old.second) new)
    pub failed : OnErr result (OneFailed a b (old.first, old.second) new)
    pub last : OnErr result (LastReadFailed a b new)

  -- and it finds out whether this is so
  pub record LooksFor {E : Type 0} (is : Bool) (old new : Pair A B) (result : Result Bool E) : Type 0 where
    pub found : IfOk result (λ it. BothTell a b → it ≡ is)
    pub looks : Looks old new result

  -- the mark was read from the second: which is the good one by it. No bank was stopped
  pub record ReadsMark {E : Type 0} (old new : Pair A B) (result : Result Alone E) : Type 0 where
    pub good : IfOk result (λ good. IsHeld a b (in_use_alone good) new)
    pub keeps : Keeps old new
    pub other : new.first ≡ old.first
    pub stops : SameStops a b (old.first, old.second) new
    pub done : OnOk result (BothStill a b (old.first, old.second) new)
    pub failed : OnErr result (SecondFailed a b (old.first, old.second) new)
    pub last : OnErr result (LastReadFailed a b new)

  -- a piece of what they hold as one was read, and no bank was stopped
  pub record ReadsPiece {T E : Type 0} (old new : Pair A B) (at : ℕ) (into filled : List ℕ) (result : Result T E) : Type 0 where
    pub read : OnOk result (BothTell a b → filled ≡ piece at (length into) (bytes_of a b old))
    pub stops : SameStops a b (old.first, old.second) new
    pub keeps : Keeps old new

  -- bytes were written over what was there, a reset meanwhile leaves no other change, and what went wrong is counted
  pub record Writes (old new : Pair A B) (at : ℕ) (bytes was : List ℕ) (written : Written) : Type 0 where
    pub done : written ≡ Done → BothTell a b → bytes_of a b new ≡ patched was at bytes
    pub holds : HoldsOnly old new (Torn at (length bytes) was)
    pub counted : WriteCounted a b (old.first, old.second) new written

  -- the same of what they hold as one
  abbrev pub WritesPiece : Pair A B → Pair A B → ℕ → List ℕ → Written → Type 0
  WritesPiece old new at bytes written = Writes old new at bytes (bytes_of a b old) written

  -- which is in after a call, what is known of one that is out, and why the call failed if it did
  pub record LeavesInUse (before : InUse) (old new : Pair A B) (Failed : Type 0) (after : InUse) : Type 0 where
    pub held : IsHeld a b after new
    pub excuse : KeepsExcuse a b before old new after
    pub out : LeavesOut before old new after
    pub last : after ≡ Unread → LastReadFailed a b new
    pub fault : Failed → OneFailed a b (old.first, old.second) new
    pub cause : Failed → HasCause a b before old new
