-- A mirror after its opening, and two banks that are handed back.
use Rattle.std.specs.Prelude.{◌≡◌, ℕ, List, length, true, false, Result, Ok, Err, IfOk, IfErr}
use Rattle.tbl_outside.specs.declared.bank.Bank.{Ghosts}
use Rattle.bank_mirror.specs.declared.mirror.OpenBack.{OpenBack}
use Rattle.bank_mirror.specs.declared.in_use.Alone.{Alone}
use Rattle.bank_mirror.specs.declared.in_use.Alone.TheVariants.{First, Second}
use Rattle.bank_mirror.specs.declared.opening.OpenFault.{OpenFault}
use Rattle.bank_mirror.specs.declared.opening.Opened.{Opened}
use Rattle.bank_mirror.specs.Pairs.{Pair, BothTell, BothTellMoments, AsWas, is_stale, bytes_of, bytes_alone, pair_of}
use Rattle.bank_mirror.specs.Moments.{LeftSince}
use Rattle.bank_mirror.specs.Counts.{IsSince, opening_of}
use Rattle.bank_mirror.specs.Checks.{loses_store}
use Rattle.bank_mirror.specs.Openings.{Opens, OpenCounted, OpenFails, CheckFails, OpensAlone, AloneFails}
use Rattle.bank_mirror.specs.Mirrors.{Mirrored}

-- both banks that are handed back, with what they were before each call
abbrev pub returned : {A B : Type 0} → OpenBack A B → Pair A B
returned back = record { first = back.first; second = back.second; past = back.past.items }

-- since the opening began, a reset leaves nothing but such images
abbrev pub LeavesSince : {A B : Type 0} → Ghosts A → Ghosts B → Pair A B → (List ℕ → Type 0) → Type 0
LeavesSince a b pair IsSuch = BothTellMoments a b → (image : List ℕ) → LeftSince a b pair 0 image → IsSuch image

-- it reads as these bytes, was opened of these two, and has counted nothing yet
pub record Begins {A B : Type 0} (a : Ghosts A) (b : Ghosts B) (was : A × B) (these : List ℕ) (mirror : Mirrored A B) : Type 0 where
  pub bytes : BothTell a b → bytes_of a b mirror.pair ≡ these
  pub opening : opening_of mirror.pair ≡ was
  pub faults : mirror.faults ≡ 0
  pub size : a.size mirror.pair.first ≡ a.size was.0
  pub counts : IsSince a b was mirror.pair

-- both as they are handed back: they hold such bytes as one, and have their sizes
pub record HandsBack {A B : Type 0} (a : Ghosts A) (b : Ghosts B) (opening : A × B) (IsSuch : List ℕ → Type 0) (back : Pair A B) : Type 0 where
  pub back_bytes : BothTell a b → IsSuch (bytes_of a b back)
  pub back_sizes : (a.size back.first ≡ a.size opening.0) × (b.size back.second ≡ b.size opening.1)

-- how an opening ends: a mirror reads as these bytes, or both banks are handed back, and a reset leaves nothing but such images
pub record Ends {A B : Type 0} (a : Ghosts A) (b : Ghosts B) (opening : A × B) (these : List ℕ) (IsSuch : List ℕ → Type 0) (result : Result (Mirrored A B) (OpenBack A B)) : Type 0 where
  pub begins : IfOk result (Begins a b opening these)
  pub moments : IfOk result (λ m. LeavesSince a b m.pair IsSuch)
  pub back : IfErr result (λ back. HandsBack a b opening IsSuch (returned back))
  pub back_moments : IfErr result (λ back. LeavesSince a b (returned back) IsSuch)

-- the mirror reads as both did as one
abbrev pub EndsAsOne : {A B : Type 0} → Ghosts A → Ghosts B → A → B → Result (Mirrored A B) (OpenBack A B) → Type 0
EndsAsOne a b first second result = Ends a b (first, second) (pair_of (a.now first) (b.now second)) (λ image. image ≡ pair_of (a.now first) (b.now second)) result

-- the mirror reads as one of them did, which the caller says is the good one
abbrev pub EndsAsOf : {A B : Type 0} → Ghosts A → Ghosts B → Alone → A → B → Result (Mirrored A B) (OpenBack A B) → Type 0
EndsAsOf a b good first second result = Ends a b (first, second) (bytes_alone good (a.now first) (b.now second)) (AsWas a b first second (bytes_alone good (a.now first) (b.now second))) result

-- two banks are opened as one
pub record OpensBoth {A B : Type 0} (a : Ghosts A) (b : Ghosts B) (first : A) (second : B) (result : Result (Mirrored A B) (OpenBack A B)) : Type 0 where
  pub ends : EndsAsOne a b first second result
  pub opened : IfOk result (λ m. Opens a b (is_stale (length (a.now first)) (b.now second)) (first, second) m.pair m.in_use m.mark_failed)
  pub failed : IfErr result (λ back. OpenFails a b (first, second) (returned back) back.cause)

-- unless a blank first would be copied over a store, which is found before either is written
pub record OpensChecked {A B : Type 0} (a : Ghosts A) (b : Ghosts B) (live_mark : List ℕ) (first : A) (second : B) (result : Result (Mirrored A B) (OpenBack A B)) : Type 0 where
  pub ends : EndsAsOne a b first second result
  pub opened : IfOk result (λ m. Opens a b (is_stale (length (a.now first)) (b.now second)) (first, second) m.pair m.in_use m.mark_failed)
  pub keeps : IfOk result (λ m. BothTell a b → loses_store live_mark (a.now first) (b.now second) ≡ false)
  pub failed : IfErr result (λ back. CheckFails a b live_mark (first, second) (returned back) back.cause)

-- the second is the good one, whatever its mark says
pub record TakesSecond {A B : Type 0} (a : Ghosts A) (b : Ghosts B) (first : A) (second : B) (result : Result (Mirrored A B) (OpenBack A B)) : Type 0 where
  pub ends : EndsAsOf a b Second first second result
  pub opened : IfOk result (λ m. Opens a b true (first, second) m.pair m.in_use m.mark_failed)
  pub counted : IfErr result (λ back. OpenCounted a b (first, second) (returned back) back.cause)

-- one goes on alone. The first may only where the mark isn't set
abbrev pub MayGoAlone : {A B : Type 0} → Ghosts A → Ghosts B → Alone → A → B → Type 0
MayGoAlone a b alone first second = alone ≡ First → BothTell a b → is_stale (length (a.now first)) (b.now second) ≡ false

pub record GoesAlone {A B : Type 0} (a : Ghosts A) (b : Ghosts B) (alone : Alone) (first : A) (second : B) (result : Result (Mirrored A B) (OpenBack A B)) : Type 0 where
  pub ends : EndsAsOf a b alone first second result
  pub opened : IfOk result (λ m. OpensAlone a b alone (first, second) m.pair m.in_use m.mark_failed)
  pub failed : IfErr result (λ back. AloneFails a b alone (first, second) (returned back) back.cause)

-- a mirror of both as they were opened, which counted nothing yet
abbrev pub unused : {A B : Type 0} → Pair A B → Opened → Mirrored A B
unused pair o = record { pair = pair; in_use = o.in_use; mark_failed = o.mark_failed; faults = 0 }

-- it is that one, or both are handed back with the cause
abbrev pub IsMade : {A B : Type 0} → Pair A B → Result Opened OpenFault → Result (Mirrored A B) (OpenBack A B) → Type 0
IsMade pair (Ok o) (Ok mirror) = mirror ≡ unused pair o
IsMade pair (Ok o) (Err back) = ⊥
IsMade pair (Err cause) (Ok mirror) = ⊥
IsMade pair (Err cause) (Err back) = (back.cause ≡ cause) × (returned back ≡ pair)
