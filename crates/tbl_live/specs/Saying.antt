-- What a call gives its caller, by the caller's seat before it and after it.
use Rattle.std.specs.Prelude.{◌≡◌, ℕ, ◌+◌, ◌<◌, ◌≤◌, List, [], ◌∷◌, ◌++◌, Some, None, Result, Ok, Err}
use Rattle.std.specs.List.{AllByRecursion}
use Rattle.tbl_kinds.specs.Buffers.{Buffer}
use Rattle.tbl_kinds.specs.Requests.{Fits}
use Rattle.tbl_kinds.specs.declared.request.Actor.{Actor}
use Rattle.tbl_kinds.specs.declared.request.Request.{Request}
use Rattle.request_effects.specs.Effects.{reply_limit}
use Rattle.tbl_core.specs.declared.service.StepFault.{StepFault}
use Rattle.tbl_live.specs.Answers.{KeepsRoom}
use Rattle.tbl_live.specs.Bounds.{Bound}
use Rattle.tbl_live.specs.Calls.{Call}
use Rattle.tbl_registry.specs.declared.pin.Pin.{Pin}
use Rattle.tbl_live.specs.Lent.{IsLentTo}
use Rattle.tbl_live.specs.Seats.{ServiceView, SeatView, IsSame}
use Rattle.tbl_live.specs.ServedView.{ServedView}
use Rattle.tbl_live.specs.declared.receipts.Receipt.{Receipt}
use Rattle.tbl_live.specs.declared.receipts.CallFault.{CallFault}
use Rattle.tbl_live.specs.declared.receipts.CallFault.TheVariants.{Ended, Full, Step, Memory}

-- Before a seat's holder calls.
pub record MayCall {B C : Type 0} (service : ServiceView B C) (seat : SeatView B C) (request : Request) (out : Buffer) : Type 0 where
  -- the seat is of this service
  pub own : seat.of ≡ service.of
  -- the request may come from its actor
  pub fits : Fits seat.actor request
  -- there is room for the longest reply
  pub room : reply_limit ≤ out.spare

-- the receipt of a call of this actor
abbrev pub receipt_for : Actor → Call → Receipt
receipt_for actor call = record { place = call.place; actor = actor; status = call.status; detail = call.detail }

-- this call is one more in the seat's list, for this request, with a place after all others; its reply's bytes are appended to those that
-- were there
pub record AddsCall {B C : Type 0} (limit : ℕ) (old new : SeatView B C) (request : Request) (call : Call) (bytes after : List ℕ) : Type 0 where
  pub added : new.calls ≡ old.calls ++ call ∷ []
  pub request_is : call.request ≡ request
  pub above : AllByRecursion (λ (c : Call). c.place < call.place) old.calls
  pub room : call.place < limit
  pub saw : new.saw ≡ call.place + 1
  pub appended : after ≡ bytes ++ call.bytes

-- no call more, and no bytes
pub record Stays {B C : Type 0} (old new : SeatView B C) (bytes after : List ℕ) : Type 0 where
  pub calls : new.calls ≡ old.calls
  pub none : after ≡ bytes

-- there was no room, as the seat saw it
abbrev pub IsFullIn : {B C : Type 0} → Bound → ℕ → List (ServedView B C) → ℕ → Type 0
IsFullIn bound saw [] count = ⊥
IsFullIn bound saw (last ∷ others) count = bound.full saw last.core.state.tables count

-- by what is answered; no fault was met before a call that was played, refused as full, or ran out of memory
abbrev pub Told : {B C : Type 0} → Bound → SeatView B C → SeatView B C → Request → List ℕ → List ℕ → Result Receipt CallFault → Type 0
Told bound old new request bytes after (Ok receipt) = (call : Call) × AddsCall bound.limit old new request call bytes after × (receipt ≡ receipt_for old.actor call) × (new.met ≡ None)
Told bound old new request bytes after (Err (Ended fault)) = Stays old new bytes after × (new.met ≡ Some fault)
Told bound old new request bytes after (Err (Full count)) = Stays old new bytes after × (new.met ≡ None) × IsFullIn bound new.saw new.seen count
Told bound old new request bytes after (Err (Step fault)) = ((call : Call) × AddsCall bound.limit old new request call bytes after) × (old.met ≡ None) × (new.met ≡ Some fault)
Told bound old new request bytes after (Err Memory) = Stays old new bytes after × (new.met ≡ None) × (new.saw < bound.limit)

-- the number that the seat saw doesn't fall, a fault that it met stays, and what was lent to its holder is lent still
pub record GoesOn {B C : Type 0} (old new : SeatView B C) : Type 0 where
  pub saw : old.saw ≤ new.saw
  pub met : (fault : StepFault) → old.met ≡ Some fault → new.met ≡ Some fault
  pub pins : (pin : Pin) → IsLentTo old pin → IsLentTo new pin

-- the seat is still of its service and its actor, it goes on, this is what its call gave, and the caller's buffer has lost no room
pub record Says {B C : Type 0} (bound : Bound) (old new : SeatView B C) (request : Request) (out after : Buffer) (result : Result Receipt CallFault) : Type 0 where
  pub same : IsSame old new
  pub told : Told bound old new request out.list after.list result
  pub goes_on : GoesOn old new
  pub room : KeepsRoom out after

-- so it is if no call was made
pub record CallsNothing {B C : Type 0} (old new : SeatView B C) : Type 0 where
  pub same : IsSame old new
  pub calls : new.calls ≡ old.calls
  pub goes_on : GoesOn old new
