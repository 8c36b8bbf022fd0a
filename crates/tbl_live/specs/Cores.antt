-- What a service asks of its core.
use Rattle.std.specs.Prelude.{◌≡◌, ◌<◌, ◌≤◌, ℕ, ◌+◌, List, ◌∷◌, [], ◌++◌, length, false, Option, Result, Err, OnOk, IfSome, MatchOption}
use Rattle.std.proofs.Common.{ℤ}
use Rattle.tbl_kinds.specs.Numbers.{piece}
use Rattle.tbl_kinds.specs.Requests.{Fits}
use Rattle.tbl_kinds.specs.declared.request.Actor.{Actor}
use Rattle.tbl_kinds.specs.declared.request.Request.{Request}
use Rattle.tbl_outside.specs.declared.bank.Bank.{Ghosts}
use Rattle.tbl_registry.specs.declared.pin.Pin.{Pin}
use Rattle.tbl_core.specs.Ended.{OnPlayed}
use Rattle.tbl_core.specs.Lent.{StillPins, LastGives}
use Rattle.tbl_core.specs.Pins.{IsSliceOf}
use Rattle.tbl_core.specs.Service.{CoreView, AddsOne, IsOfPin, PinsOnward}
use Rattle.tbl_core.specs.declared.service.StepFault.{StepFault}
use Rattle.tbl_core.specs.declared.service.StepFault.TheVariants.{Memory as NoMemory}
use Rattle.tbl_history.specs.Serving.{Continues}
use Rattle.tbl_live.specs.declared.cores.Taken.{Taken}

-- ---- what is taken of a lent image

-- the pin is this one, and the bytes are those of its image, so many from an offset on
pub record TakesPiece (pin : Pin) (offset len : ℕ) (taken : Taken) : Type 0 where
  pub pin_is : taken.pin.now ≡ pin
  pub slice : taken.slice.list ≡ piece offset len pin.bytes

-- None if they don't lie inside the image
abbrev pub TakesInside : Pin → ℕ → ℕ → Option Taken → Type 0
TakesInside pin offset len ahead = MatchOption ahead (length pin.bytes < offset + len) (TakesPiece pin offset len)

-- these bytes of a lent image are those that the request, a Read, asks for
abbrev pub IsTaken : {B C : Type 0} → Request → CoreView B C → Taken → Type 0
IsTaken request core taken = IsOfPin taken.pin.now core × IsSliceOf taken.pin.now request taken.slice.list

-- if the image's handle still pins by the call that it was lent for, the Read is answered with this very buffer
abbrev pub StepGives : {B C : Type 0} → CoreView B C → CoreView B C → Result Unit StepFault → Taken → Type 0
StepGives old new done taken = StillPins taken.pin.now old.gets → OnPlayed done (LastGives old.state old.entries new.entries taken.slice)

-- ---- a step

-- whose call it is, what it requests, and what was taken of a lent image for it, if anything was
pub record Asked : Type 0 where
  pub actor : Actor
  pub request : Request
  pub taken : Option Taken

abbrev pub asked : Actor → Request → Option Taken → Asked
asked actor request taken = record { actor = actor; request = request; taken = taken }

-- Before a core plays a request.
pub record MayPlay {B C : Type 0} (has_room : Type 0) (core : CoreView B C) (call : Asked) : Type 0 where
  -- the request may come from its actor
  pub fits : Fits call.actor call.request
  -- no boot has ended the service
  pub live : core.state.ended ≡ false
  -- there is room for it
  pub room : has_room
  -- what was taken are the bytes that it asks for
  pub taken : IfSome call.taken (IsTaken call.request core)

-- Once it has played it.
pub record PlaysOne {B C : Type 0} (g : Ghosts B) (verdict : C → List ℕ → ℤ) (call : Asked) (old new : CoreView B C) (result : Result Unit StepFault) : Type 0 where
  -- over any bank: what was taken is what is answered, or the Read is refused
  pub lent : IfSome call.taken (StepGives old new result)
  -- the history has one entry more, with its causes
  pub adds : OnPlayed result (AddsOne g old new call.actor call.request result)
  -- whatever opening the core represented, it represents still
  pub continues : OnPlayed result (Continues g verdict old new)
  -- what a handle pins, it pinned before, or it got the address in it
  pub pins : OnPlayed result (PinsOnward old new)
  -- it goes on, unless a fault is answered
  pub live : OnOk result (new.state.ended ≡ false)
  -- out of memory changes nothing
  pub err : result ≡ Err NoMemory → new ≡ old
