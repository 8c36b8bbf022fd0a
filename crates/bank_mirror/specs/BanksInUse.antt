-- Which of two banks is in, what both hold then, and why one is out.
use Rattle.std.specs.Prelude.{◌≡◌, ◌⊎◌, Bool, true, false, List, ℕ, length, take}
use Rattle.tbl_outside.specs.declared.bank.Bank.{Ghosts}
use Rattle.bank_mirror.specs.declared.in_use.InUse.{InUse}
use Rattle.bank_mirror.specs.declared.in_use.InUse.TheVariants.{Both, FirstOut, SecondOut, Unread}
use Rattle.bank_mirror.specs.declared.in_use.Alone.{Alone}
use Rattle.bank_mirror.specs.declared.in_use.Alone.TheVariants.{First, Second}
use Rattle.bank_mirror.specs.Pairs.{Pair, BothTell, is_stale}
use Rattle.bank_mirror.specs.Counts.{IsSince, FirstFailed, SecondFailed, BothFailed, OneStopped, MayFail}

-- what both hold: where both are in they hold the same, and the mark says which one is out
abbrev pub HoldsAs : InUse → List ℕ → List ℕ → Type 0
HoldsAs Both first second = (is_stale (length first) second ≡ false) × (take (length first) second ≡ first)
HoldsAs FirstOut first second = is_stale (length first) second ≡ true
HoldsAs SecondOut first second = is_stale (length first) second ≡ false
HoldsAs Unread first second = Unit {0}

-- a bank that is out is as it was and stays out; where the mark had to be read back, so is the first where it is out by that
abbrev pub LeavesOut : {A B : Type 0} → InUse → Pair A B → Pair A B → InUse → Type 0
LeavesOut Both old new after = Unit {0}
LeavesOut FirstOut old new after = (after ≡ FirstOut) × (new.first ≡ old.first)
LeavesOut SecondOut old new after = (after ≡ SecondOut) × (new.second ≡ old.second)
LeavesOut Unread old new after = after ≡ FirstOut → new.first ≡ old.first

-- which is in where one goes on alone
abbrev pub in_use_alone : Alone → InUse
in_use_alone First = SecondOut
in_use_alone Second = FirstOut

-- while one goes on alone, the other one is as it was
abbrev pub LeavesOther : {A B : Type 0} → Alone → Pair A B → Pair A B → Type 0
LeavesOther First old new = new.second ≡ old.second
LeavesOther Second old new = new.first ≡ old.first

-- the other one isn't written; the first alone needs no call of either
abbrev pub OtherIsLeft : {A B : Type 0} → Alone → A → B → Pair A B → Type 0
OtherIsLeft First first second pair = (pair.first ≡ first) × (pair.second ≡ second)
OtherIsLeft Second first second pair = pair.first ≡ first

module _ {A B : Type 0} (a : Ghosts A) (b : Ghosts B) where
  -- the same, where both tell their bytes
  abbrev pub IsHeld : InUse → Pair A B → Type 0
  IsHeld in_use pair = BothTell a b → HoldsAs in_use (a.now pair.first) (b.now pair.second)

  -- why a bank is out: it failed since the opening, or for the second one was stopped, or the opening's write of the mark
  -- failed. The mark is unread only where both failed
  abbrev pub IsExcused : Bool → A × B → Pair A B → InUse → Type 0
  IsExcused mark_failed opening pair Both = Unit {0}
  IsExcused mark_failed opening pair FirstOut = FirstFailed a b opening pair ⊎ (mark_failed ≡ true)
  IsExcused mark_failed opening pair SecondOut = SecondFailed a b opening pair ⊎ OneStopped a b opening pair ⊎ (mark_failed ≡ true)
  IsExcused mark_failed opening pair Unread = BothFailed a b opening pair

  -- whatever excused the bank that was out excuses the one that is out now
  abbrev pub KeepsExcuse : InUse → Pair A B → Pair A B → InUse → Type 0
  KeepsExcuse in_use old new after = (mark_failed : Bool) (opening : A × B) → IsSince a b opening old
      → IsExcused mark_failed opening old in_use → IsExcused mark_failed opening new after

  -- where the first had failed, this excuses the one that is out after the mark was set for it
  abbrev pub ExcusesMarked : Pair A B → Pair A B → InUse → Type 0
  ExcusesMarked old new after = (mark_failed : Bool) (opening : A × B) → IsSince a b opening old
      → FirstFailed a b opening old → IsExcused mark_failed opening new after

  -- and with what happened since, it is a cause for a call to fail
  abbrev pub HasCause : InUse → Pair A B → Pair A B → Type 0
  HasCause in_use old new = (mark_failed : Bool) (opening : A × B) → IsSince a b opening old
      → IsExcused mark_failed opening old in_use → MayFail a b mark_failed opening new
