-- What an opening promises of which bank is in, and what went wrong in one that ended without a mirror.
use Rattle.std.specs.Prelude.{◌≡◌, ℕ, List, Bool, true, false, length, OnOk, IfOk, IfErr, Result}
use Rattle.tbl_kinds.specs.Numbers.{byte_at}
use Rattle.tbl_outside.specs.declared.bank.Bank.{Ghosts}
use Rattle.bank_mirror.specs.declared.opening.OpenFault.{OpenFault}
use Rattle.bank_mirror.specs.declared.opening.OpenFault.TheVariants.{Fault, Stopped, Memory, Blank}
use Rattle.bank_mirror.specs.declared.in_use.InUse.{InUse}
use Rattle.bank_mirror.specs.declared.in_use.InUse.TheVariants.{Both, FirstOut}
use Rattle.bank_mirror.specs.declared.in_use.Alone.{Alone}
use Rattle.bank_mirror.specs.declared.in_use.Alone.TheVariants.{First, Second}
use Rattle.bank_mirror.specs.declared.opening.Opened.{Opened}
use Rattle.bank_mirror.specs.Pairs.{Pair, BothTell, AsWas, bytes_of, front_of, is_marked, shown_by}
use Rattle.bank_mirror.specs.Counts.{SecondFailed, OneFailed, OneStopped, BothStill}
use Rattle.bank_mirror.specs.LastCalls.{LastReadFailed}
use Rattle.bank_mirror.specs.BanksInUse.{IsHeld, IsExcused, in_use_alone, OtherIsLeft}
use Rattle.bank_mirror.specs.Kept.{HoldsOnly}
use Rattle.bank_mirror.specs.Checks.{loses_store}

-- a bank failed in it, or was stopped. Memory ran out before the first call
abbrev pub OpenCounted : {A B : Type 0} → Ghosts A → Ghosts B → A × B → Pair A B → OpenFault → Type 0
OpenCounted a b opening pair Fault = OneFailed a b opening pair
OpenCounted a b opening pair Stopped = OneStopped a b opening pair
OpenCounted a b opening pair Memory = (pair.first ≡ opening.0) × (pair.second ≡ opening.1)
OpenCounted a b opening pair Blank = ⊥

-- the same of what is done once the memory is taken
abbrev pub CallsCounted : {A B : Type 0} → Ghosts A → Ghosts B → A × B → Pair A B → OpenFault → Type 0
CallsCounted a b opening pair Fault = OneFailed a b opening pair
CallsCounted a b opening pair Stopped = OneStopped a b opening pair
CallsCounted a b opening pair Memory = ⊥
CallsCounted a b opening pair Blank = ⊥

-- an opening that looks first may also find that a blank first would be copied over a store, and no call failed then
abbrev pub CheckCounted : {A B : Type 0} → Ghosts A → Ghosts B → A × B → Pair A B → OpenFault → Type 0
CheckCounted a b opening pair Fault = OneFailed a b opening pair
CheckCounted a b opening pair Stopped = OneStopped a b opening pair
CheckCounted a b opening pair Memory = (pair.first ≡ opening.0) × (pair.second ≡ opening.1)
CheckCounted a b opening pair Blank = BothStill a b opening pair

-- which is in after an opening, why one is out, and whether its write of the mark failed, by whether the mark was set when the
-- copy began. The mark is taken away as 0
pub record Opens {A B : Type 0} (a : Ghosts A) (b : Ghosts B) (marked : Bool) (opening : A × B) (new : Pair A B) (in_use : InUse) (mark_failed : Bool) : Type 0 where
  pub held : IsHeld a b in_use new
  pub excuse : IsExcused a b mark_failed opening new in_use
  pub mark : mark_failed ≡ true → SecondFailed a b opening new
  pub unmarked : BothTell a b → marked ≡ false → mark_failed ≡ false
  pub cleared : BothTell a b → marked ≡ true → in_use ≡ Both → byte_at (length (a.now new.first)) (b.now new.second) ≡ 0

-- what went wrong, and that a fault is a read that failed, in the last call of all: once the memory is taken ..
pub record CallsFail {A B : Type 0} (a : Ghosts A) (b : Ghosts B) (opening : A × B) (new : Pair A B) (fault : OpenFault) : Type 0 where
  pub counted : CallsCounted a b opening new fault
  pub last : fault ≡ Fault → LastReadFailed a b new

-- .. from the beginning ..
pub record OpenFails {A B : Type 0} (a : Ghosts A) (b : Ghosts B) (opening : A × B) (new : Pair A B) (fault : OpenFault) : Type 0 where
  pub counted : OpenCounted a b opening new fault
  pub last : fault ≡ Fault → LastReadFailed a b new

-- .. and of one that looks first: it finds exactly that a store would be lost, and leaves both as they were then
pub record CheckFails {A B : Type 0} (a : Ghosts A) (b : Ghosts B) (live_mark : List ℕ) (opening : A × B) (new : Pair A B) (fault : OpenFault) : Type 0 where
  pub counted : CheckCounted a b opening new fault
  pub last : fault ≡ Fault → LastReadFailed a b new
  pub blank : fault ≡ Blank → BothTell a b → loses_store live_mark (a.now opening.0) (b.now opening.1) ≡ true
  pub untouched : fault ≡ Blank → BothTell a b → (a.now new.first ≡ a.now opening.0) × (b.now new.second ≡ b.now opening.1)

-- so an opening ends, and at no moment both hold anything but what they held as one
pub record EndsBy {A B : Type 0} (a : Ghosts A) (b : Ghosts B) (Fails : A × B → Pair A B → OpenFault → Type 0) (old new : Pair A B) (result : Result Opened OpenFault) : Type 0 where
  pub opened : IfOk result (λ o. Opens a b (is_marked a b old) (old.first, old.second) new o.in_use o.mark_failed)
  pub failed : IfErr result (Fails (old.first, old.second) new)
  pub holds : HoldsOnly a b old new (λ image. image ≡ bytes_of a b old)

-- once the memory is taken, and from the beginning
abbrev pub EndsCalls : {A B : Type 0} → Ghosts A → Ghosts B → Pair A B → Pair A B → Result Opened OpenFault → Type 0
EndsCalls a b = EndsBy a b (CallsFail a b)

abbrev pub EndsOpening : {A B : Type 0} → Ghosts A → Ghosts B → Pair A B → Pair A B → Result Opened OpenFault → Type 0
EndsOpening a b = EndsBy a b (OpenFails a b)

-- so one ends that looks first
pub record EndsChecked {A B : Type 0} (a : Ghosts A) (b : Ghosts B) (live_mark : List ℕ) (old new : Pair A B) (result : Result Opened OpenFault) : Type 0 where
  pub ends : EndsBy a b (CheckFails a b live_mark) old new result
  pub keeps : IfOk result (λ _. BothTell a b → loses_store live_mark (a.now old.first) (b.now old.second) ≡ false)

-- the bytes of one of them are those of both then, and until then at no moment both hold anything but those, or what they held as one
pub record TakesOne {A B : Type 0} (a : Ghosts A) (b : Ghosts B) (good : Alone) (old new : Pair A B) (result : Result Opened OpenFault) : Type 0 where
  pub bytes : IfOk result (λ _. BothTell a b → bytes_of a b new ≡ shown_by a b good old)
  pub holds : HoldsOnly a b old new (AsWas a b old.first old.second (shown_by a b good old))

-- so one ends of which the second is the good one, the mark of which is set first
pub record EndsSecond {A B : Type 0} (a : Ghosts A) (b : Ghosts B) (old new : Pair A B) (result : Result Opened OpenFault) : Type 0 where
  pub opened : IfOk result (λ o. Opens a b true (old.first, old.second) new o.in_use o.mark_failed)
  pub takes : TakesOne a b Second old new result
  pub counted : IfErr result (OpenCounted a b (old.first, old.second) new)

-- the mark is set, or what went wrong is counted. The first is as it was, and so is the second's front
pub record SetsMark {A B E : Type 0} (a : Ghosts A) (b : Ghosts B) (old new : Pair A B) (result : Result E OpenFault) : Type 0 where
  pub marked : OnOk result (IsHeld a b FirstOut new)
  pub front : BothTell a b → front_of a b new ≡ front_of a b old
  pub other : new.first ≡ old.first
  pub counted : IfErr result (CallsCounted a b (old.first, old.second) new)
  pub holds : HoldsOnly a b old new (AsWas a b old.first old.second (front_of a b old))

-- so one ends in which one goes on alone: the other one isn't written, and counts as out by a write of the mark that failed
pub record OpensAlone {A B : Type 0} (a : Ghosts A) (b : Ghosts B) (alone : Alone) (opening : A × B) (new : Pair A B) (in_use : InUse) (mark_failed : Bool) : Type 0 where
  pub out : in_use ≡ in_use_alone alone
  pub held : IsHeld a b in_use new
  pub left : OtherIsLeft alone opening.0 opening.1 new
  pub mark : mark_failed ≡ true

-- or the mark couldn't be set: this ends only an opening of the second alone
pub record AloneFails {A B : Type 0} (a : Ghosts A) (b : Ghosts B) (alone : Alone) (opening : A × B) (new : Pair A B) (fault : OpenFault) : Type 0 where
  pub second : alone ≡ First → ⊥
  pub left : new.first ≡ opening.0
  pub counted : CallsCounted a b opening new fault

pub record EndsAlone {A B : Type 0} (a : Ghosts A) (b : Ghosts B) (alone : Alone) (old new : Pair A B) (result : Result Opened OpenFault) : Type 0 where
  pub opened : IfOk result (λ o. OpensAlone a b alone (old.first, old.second) new o.in_use o.mark_failed)
  pub failed : IfErr result (AloneFails a b alone (old.first, old.second) new)
  pub takes : TakesOne a b alone old new result
