-- Images that are lent to the holder of a seat.
use Rattle.std.specs.Prelude.{◌≡◌, ℕ, List, [], ◌∷◌, Option, Result, Ok, Err}
use Rattle.std.proofs.Common.{ℤ}
use Rattle.tbl_kinds.specs.Buffers.{Buffer}
use Rattle.tbl_kinds.specs.Records.{actor_number}
use Rattle.tbl_kinds.specs.declared.request.Request.{Request}
use Rattle.tbl_outside.specs.declared.bank.Bank.{Ghosts}
use Rattle.tbl_registry.specs.Lending.{lent_at}
use Rattle.tbl_registry.specs.declared.pin.Pin.{Pin}
use Rattle.tbl_core.specs.Lent.{StillPins, LastGives}
use Rattle.tbl_core.specs.Pins.{place_in, IsSliceOf}
use Rattle.tbl_core.specs.Service.{CoreView, IsOfPin}
use Rattle.turn_lock.specs.Turns.{Beside}
use Rattle.tbl_live.specs.Moves.{Moves}
use Rattle.tbl_live.specs.Seats.{SeatView}
use Rattle.tbl_live.specs.ServedView.{ServedView}
use Rattle.tbl_live.specs.declared.cores.Taken.{Taken}
use Rattle.tbl_live.specs.declared.receipts.Receipt.{Receipt}
use Rattle.tbl_live.specs.declared.receipts.CallFault.{CallFault}
use Rattle.tbl_live.specs.declared.receipts.CallFault.TheVariants.{Ended, Full, Step, Memory}

-- what a handle pins there is lent, if it pins an image
abbrev pub LendsNow : {B C : Type 0} → ℕ → CoreView B C → Option Pin → Type 0
LendsNow handle core lent = lent ≡ lent_at handle (place_in core.gets handle) core.state.tables

-- the image was lent by what the lock held when the seat's holder saw it last, or earlier
abbrev pub IsLentIn : {B C : Type 0} → List (ServedView B C) → Pin → Type 0
IsLentIn [] pin = ⊥
IsLentIn (last ∷ others) pin = IsOfPin pin last.core

abbrev pub IsLentTo : {B C : Type 0} → SeatView B C → Pin → Type 0
IsLentTo seat pin = IsLentIn seat.seen pin

-- what the handle pinned as the seat's holder saw it last is lent
abbrev pub LendsIn : {B C : Type 0} → ℕ → List (ServedView B C) → Option Pin → Type 0
LendsIn handle [] lent = ⊥
LendsIn handle (last ∷ others) lent = LendsNow handle last.core lent

abbrev pub LendsTo : {B C : Type 0} → ℕ → SeatView B C → Option Pin → Type 0
LendsTo handle seat lent = LendsIn handle seat.seen lent

-- what was taken is of an image that was lent to the seat's holder, and are the bytes that the request, a Read, asks for
abbrev pub IsTakenFor : {B C : Type 0} → SeatView B C → Request → Taken → Type 0
IsTakenFor seat request taken = IsLentTo seat taken.pin.now × IsSliceOf taken.pin.now request taken.slice.list

-- a call that was played is answered with this very buffer, or is refused
abbrev pub Gives : {B C : Type 0} → CoreView B C → CoreView B C → Buffer → Result Receipt CallFault → Type 0
Gives old new slice (Ok receipt) = LastGives old.state old.entries new.entries slice
Gives old new slice (Err (Step fault)) = LastGives old.state old.entries new.entries slice
Gives old new slice (Err (Ended fault)) = Unit {0}
Gives old new slice (Err (Full count)) = Unit {0}
Gives old new slice (Err Memory) = Unit {0}

-- by what a call with a Read was answered, if the image's handle still pinned by the call that it was lent for
abbrev pub CallGives : {B C : Type 0} → Result Receipt CallFault → CoreView B C → CoreView B C → Taken → Type 0
CallGives result old new taken = StillPins taken.pin.now old.gets → Gives old new taken.slice result

-- since the seat's holder saw the service, others had turns, and then its call was answered so
pub record IsGiven {B C : Type 0} (g : Ghosts B) (verdict : C → List ℕ → ℤ) (actor : ℕ) (result : Result Receipt CallFault) (old new : ServedView B C) (taken : Taken) : Type 0 where
  pub found : ServedView B C
  pub beside : Beside (Moves g verdict) actor old found
  pub gives : CallGives result found.core new.core taken

abbrev pub IsGivenIn : {B C : Type 0} → Ghosts B → (C → List ℕ → ℤ) → ℕ → Result Receipt CallFault → List (ServedView B C) → List (ServedView B C) → Taken → Type 0
IsGivenIn g verdict actor result [] news taken = ⊥
IsGivenIn g verdict actor result (old ∷ olds) [] taken = ⊥
IsGivenIn g verdict actor result (old ∷ olds) (new ∷ news) taken = IsGiven g verdict actor result old new taken

-- by what the seat's holder saw before its call and after it
abbrev pub IsGivenTo : {B C : Type 0} → Ghosts B → (C → List ℕ → ℤ) → Result Receipt CallFault → SeatView B C → SeatView B C → Taken → Type 0
IsGivenTo g verdict result old new taken = IsGivenIn g verdict (actor_number old.actor) result old.seen new.seen taken
