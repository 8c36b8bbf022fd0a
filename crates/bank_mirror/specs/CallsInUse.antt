-- A call of two banks, by which of them is in.
use Rattle.std.specs.Prelude.{◌≡◌, ℕ, ◌+◌, ◌≤◌, ◌∷◌, List, length, IsErr, Result}
use Rattle.tbl_outside.specs.declared.bank.Bank.{Ghosts}
use Rattle.tbl_outside.specs.declared.bank.Written.{Written}
use Rattle.tbl_outside.specs.declared.bank.Written.TheVariants.{Done, Failed as BrokeOff, Stopped}
use Rattle.tbl_outside.specs.declared.stream.Failed.{Failed}
use Rattle.tbl_outside.specs.Bank.{Torn}
use Rattle.tbl_outside.specs.BankCalls.{write}
use Rattle.bank_mirror.specs.declared.in_use.InUse.{InUse}
use Rattle.bank_mirror.specs.declared.in_use.InUse.TheVariants.{Both, SecondOut, Unread}
use Rattle.bank_mirror.specs.declared.reads.ReadEnd.{ReadEnd}
use Rattle.bank_mirror.specs.declared.writes.Ended.{Ended}
use Rattle.bank_mirror.specs.Pairs.{Pair, BothTell, front_of}
use Rattle.bank_mirror.specs.Counts.{SecondFailed}
use Rattle.bank_mirror.specs.LastCalls.{LastReadFailed}
use Rattle.bank_mirror.specs.BanksInUse.{IsHeld, ExcusesMarked}
use Rattle.bank_mirror.specs.Kept.{Writes, WritesPiece, ReadsPiece, LeavesInUse}

-- how a write to both ended, by the second's, after the first has taken it
abbrev pub ended_by : Written → Ended
ended_by Done = record { written = Done; in_use = Both }
ended_by BrokeOff = record { written = Done; in_use = SecondOut }
ended_by Stopped = record { written = Stopped; in_use = SecondOut }

module _ {A B : Type 0} (a : Ghosts A) (b : Ghosts B) where
  -- the piece lies in what both hold as one, of which is known what this one that is in says
  pub record CanReach (in_use : InUse) (pair : Pair A B) (at : ℕ) (bytes : List ℕ) : Type 0 where
    pub room : at + length bytes ≤ a.size pair.first
    pub held : IsHeld a b in_use pair

  -- a piece was read, and which is in then
  pub record ReadsInUse (before : InUse) (old new : Pair A B) (at : ℕ) (into filled : List ℕ) (end : ReadEnd) : Type 0 where
    pub piece : ReadsPiece a b old new at into filled end.read
    pub in_use : LeavesInUse a b before old new (IsErr end.read) end.in_use
    pub stays : (before ≡ Unread → ⊥) → end.in_use ≡ before

  -- and the same are in
  abbrev pub ReadsStill : InUse → Pair A B → Pair A B → ℕ → List ℕ → List ℕ → Result Unit Failed → Type 0
  ReadsStill in_use old new at into filled result = ReadsInUse in_use old new at into filled (record { read = result; in_use = in_use })

  -- a piece was written over, and which is in then. With both in, the first is written once
  pub record WritesInUse (before : InUse) (old new : Pair A B) (at : ℕ) (bytes : List ℕ) (ended : Ended) : Type 0 where
    pub writes : WritesPiece a b old new at bytes ended.written
    pub in_use : LeavesInUse a b before old new (ended.written ≡ BrokeOff) ended.in_use
    pub once : before ≡ Both → a.tells_calls new.first → a.calls new.first ≡ write at bytes ∷ a.calls old.first

  abbrev pub WritesStill : InUse → Pair A B → Pair A B → ℕ → List ℕ → Written → Type 0
  WritesStill in_use old new at bytes written = WritesInUse in_use old new at bytes (record { written = written; in_use = in_use })

  -- after a write of the first that failed, the mark was set, and the second written
  pub record WritesMarked (old new : Pair A B) (at : ℕ) (bytes : List ℕ) (ended : Ended) : Type 0 where
    pub writes : Writes a b old new at bytes (front_of a b old) ended.written
    pub held : IsHeld a b ended.in_use new
    pub excuse : ExcusesMarked a b old new ended.in_use
    pub last : ended.in_use ≡ Unread → LastReadFailed a b new
    pub failed : ended.written ≡ BrokeOff → SecondFailed a b (old.first, old.second) new
    pub other : new.first ≡ old.first
