-- Two banks as one bank.
use Rattle.std.specs.Prelude.{◌≡◌, ℕ, ◌≤◌, ◌∷◌, Bool, true, false, List, length, OnOk, OnErr, Result}
use Rattle.tbl_kinds.specs.Numbers.{piece, patched}
use Rattle.tbl_outside.specs.declared.bank.Written.{Written}
use Rattle.tbl_outside.specs.declared.bank.Written.TheVariants.{Done, Failed, Stopped}
use Rattle.tbl_outside.specs.declared.bank.Bank.{Ghosts}
use Rattle.tbl_outside.specs.Bank.{Torn, LeavesOnly}
use Rattle.tbl_outside.specs.BankCalls.{write}
use Rattle.tbl_outside.specs.Counts.{Still, RoseAlone, Counted}
use Rattle.bank_mirror.specs.declared.in_use.InUse.{InUse}
use Rattle.bank_mirror.specs.declared.in_use.InUse.TheVariants.{Both, Unread}
use Rattle.bank_mirror.specs.Pairs.{Pair, BothTell, BothTellMoments, bytes_of}
use Rattle.bank_mirror.specs.Moments.{moment, LeftSince}
use Rattle.bank_mirror.specs.Counts.{opening_of, IsSince, stops_of, OneFailed, MayFail}
use Rattle.bank_mirror.specs.LastCalls.{LastReadFailed}
use Rattle.bank_mirror.specs.BanksInUse.{IsHeld, IsExcused, LeavesOut}

-- both, which of them is in, whether the opening's write of the mark failed or it left one out, and how often a call failed
pub record Mirrored (A B : Type 0) : Type 0 where
  pub pair : Pair A B
  pub in_use : InUse
  pub mark_failed : Bool
  pub faults : ℕ

-- what holds between two calls
pub record IsMirror {A B : Type 0} (a : Ghosts A) (b : Ghosts B) (mirror : Mirrored A B) : Type 0 where
  pub held : IsHeld a b mirror.in_use mirror.pair
  pub since : IsSince a b (opening_of mirror.pair) mirror.pair
  pub excused : IsExcused a b mirror.mark_failed (opening_of mirror.pair) mirror.pair mirror.in_use

-- its moments are those of the two
abbrev pub moment_of : {A B : Type 0} → Mirrored A B → ℕ
moment_of mirror = moment mirror.pair

abbrev pub LeftSinceOf : {A B : Type 0} → Ghosts A → Ghosts B → Mirrored A B → ℕ → List ℕ → Type 0
LeftSinceOf a b mirror = LeftSince a b mirror.pair

-- it counts the calls that failed, and the stops of both
abbrev pub faults_of : {A B : Type 0} → Mirrored A B → ℕ
faults_of mirror = mirror.faults

abbrev pub stops_in : {A B : Type 0} → Ghosts A → Ghosts B → Mirrored A B → ℕ
stops_in a b mirror = stops_of a b mirror.pair

-- it is still the same opening, of which the same is told
pub record SameOpening {A B : Type 0} (old new : Mirrored A B) : Type 0 where
  pub opening : opening_of new.pair ≡ opening_of old.pair
  pub mark : new.mark_failed ≡ old.mark_failed

abbrev pub fails : Written → Bool
fails Done = false
fails Failed = true
fails Stopped = false

-- what each call keeps to, however it ends. The mark stays unread only where the last call was a read that failed
pub record KeepsRules {A B : Type 0} (a : Ghosts A) (b : Ghosts B) (old new : Mirrored A B) : Type 0 where
  pub size : a.size new.pair.first ≡ a.size old.pair.first
  pub fault_count : old.faults ≤ new.faults
  pub stop_count : stops_in a b old ≤ stops_in a b new
  pub opening : SameOpening old new
  pub out : LeavesOut old.in_use old.pair new.pair new.in_use
  pub last : new.in_use ≡ Unread → LastReadFailed a b new.pair

-- a call fails only where one of the two failed in it, and one that is out had its cause since the opening
pub record FailsFor {A B : Type 0} (a : Ghosts A) (b : Ghosts B) (old new : Mirrored A B) : Type 0 where
  pub fault : OneFailed a b (old.pair.first, old.pair.second) new.pair
  pub cause : MayFail a b new.mark_failed (opening_of new.pair) new.pair

module _ {A B : Type 0} (a : Ghosts A) (b : Ghosts B) where
  -- a read of both as one, which puts no bank out
  pub record ReadsBoth {T E : Type 0} (old new : Mirrored A B) (at : ℕ) (into filled : List ℕ) (result : Result T E) : Type 0 where
    pub read : OnOk result (BothTell a b → filled ≡ piece at (length into) (bytes_of a b old.pair))
    pub kept : BothTell a b → bytes_of a b new.pair ≡ bytes_of a b old.pair
    pub moments : BothTellMoments a b → LeavesOnly moment_of (LeftSinceOf a b) old new (λ image. image ≡ bytes_of a b old.pair)
    pub done : OnOk result (Still faults_of (stops_in a b) old new)
    pub failed : OnErr result (RoseAlone faults_of (stops_in a b) old new)
    pub rules : KeepsRules a b old new
    pub why : OnErr result (FailsFor a b old new)
    pub stays : (old.in_use ≡ Unread → ⊥) → new.in_use ≡ old.in_use

-- a write over a piece of both as one, which with both in is one write of the first
pub record WritesBoth {A B : Type 0} (a : Ghosts A) (b : Ghosts B) (old new : Mirrored A B) (at : ℕ) (bytes : List ℕ) (written : Written) : Type 0 where
  pub done : written ≡ Done → BothTell a b → bytes_of a b new.pair ≡ patched (bytes_of a b old.pair) at bytes
  pub torn : BothTell a b → Torn at (length bytes) (bytes_of a b old.pair) (bytes_of a b new.pair)
  pub moments : BothTellMoments a b → LeavesOnly moment_of (LeftSinceOf a b) old new (Torn at (length bytes) (bytes_of a b old.pair))
  pub counted : Counted faults_of (stops_in a b) old new written
  pub rules : KeepsRules a b old new
  pub why : written ≡ Failed → FailsFor a b old new
  pub once : old.in_use ≡ Both → a.tells_calls new.pair.first → a.calls new.pair.first ≡ write at bytes ∷ a.calls old.pair.first
