-- Seats: what each is seen as, and what holds of those of one service.
use Rattle.std.specs.Prelude.{◌≡◌, ℕ, ◌+◌, ◌<◌, ◌≤◌, List, [], ◌∷◌, length, replicate, Option, Some, None}
use mathlib.Core.Option.{some}
use lib.ListN.{get_elem?}
use Rattle.atomic_table.specs.Seated.{TableId}
use Rattle.atomic_table.specs.Table.{Me}
use Rattle.tbl_kinds.specs.Records.{actor_number}
use Rattle.tbl_kinds.specs.declared.request.Actor.{Actor}
use Rattle.tbl_session.specs.Actors.{actor_count, actor_of}
use Rattle.tbl_core.specs.Service.{CoreView}
use Rattle.tbl_core.specs.declared.service.StepFault.{StepFault}
use Rattle.turn_lock.specs.Turns.{Idle}
use Rattle.turn_lock.specs.declared.rule.View.{View}
use Rattle.tbl_live.specs.Calls.{Call, own}
use Rattle.tbl_live.specs.Places.{Place}
use Rattle.tbl_live.specs.ServedView.{ServedView, HasEnded}

-- a service: which one it is, and the core that it was opened over
pub record ServiceView (B C : Type 0) : Type 0 where
  pub of : TableId
  pub opened : CoreView B C

-- A seat: its service and its actor, its calls, and how many entries the history had and which fault was kept as its last call ended.
-- `seen` is all that the lock held then.
pub record SeatView (B C : Type 0) : Type 0 where
  pub of : TableId
  pub actor : Actor
  pub seen : List (ServedView B C)
  pub calls : List Call
  pub saw : ℕ
  pub met : Option StepFault

-- the calls of an actor, by its number, who saw this last
abbrev pub calls_in : {B C : Type 0} → ℕ → List (ServedView B C) → List Call
calls_in actor [] = []
calls_in actor (x ∷ xs) = own x.base actor x.core.entries

-- the seat of this actor, who saw this last
abbrev pub seat_of : {B C : Type 0} → TableId → Actor → List (ServedView B C) → ℕ → Option StepFault → SeatView B C
seat_of of actor seen saw met = record { of = of; actor = actor; seen = seen; calls = calls_in (actor_number actor) seen; saw = saw; met = met }

-- it gives no more entries than there were, and the fault that was kept then
pub record TellsLast {B C : Type 0} (saw : ℕ) (met : Option StepFault) (last : ServedView B C) : Type 0 where
  pub saw_at_most : saw ≤ length last.core.entries
  pub met_is : met ≡ last.fault

-- the seat has one actor, who saw this last
pub record IsSeat {B C : Type 0} (me : Me (Option (ServedView B C)) (View (ServedView B C))) (actor : Actor) (saw : ℕ) (met : Option StepFault) : Type 0 where
  pub last : ServedView B C
  pub idle : Idle me (actor_number actor) (last ∷ [])
  pub past : last.base ≤ length last.core.entries
  pub tells : TellsLast saw met last

-- the seat's calls are those of this actor, by its number, who saw this last
pub record IsOf {B C : Type 0} (actor : ℕ) (last : ServedView B C) (seat : SeatView B C) : Type 0 where
  pub number : actor_number seat.actor ≡ actor
  pub calls : seat.calls ≡ own last.base actor last.core.entries
  pub tells : TellsLast seat.saw seat.met last

-- the place of a seat of this service and this actor, by its number, once the seat is left
pub record IsLeft {B C : Type 0} (of : TableId) (actor : ℕ) (seat : SeatView B C) (place : Place (ServedView B C)) : Type 0 where
  pub own : place.table_id ≡ of
  pub last : ServedView B C
  pub idle : Idle place.me actor (last ∷ [])
  pub one : IsOf actor last seat

-- so it is of each of these, from this actor on
abbrev pub AreOf : {B C : Type 0} → ℕ → List (ServedView B C) → List (SeatView B C) → Type 0
AreOf {B} {C} from seen seats = (i : ℕ) (x : ServedView B C) (seat : SeatView B C) → get_elem? seen i ≡ some x → get_elem? seats (from + i) ≡ some seat → IsOf (from + i) x seat

-- still of the same service and the same actor
pub record IsSame {B C : Type 0} (old new : SeatView B C) : Type 0 where
  pub of_it : new.of ≡ old.of
  pub actor_is : new.actor ≡ old.actor

-- ---- those of one service

-- the seat of this service for the actor of this number
pub record IsOfActor {B C : Type 0} (of : TableId) (number : ℕ) (seat : SeatView B C) : Type 0 where
  pub of_it : seat.of ≡ of
  pub actor_is : seat.actor ≡ actor_of number

-- the seats of all actors, in order
pub record AreSeats {B C : Type 0} (of : TableId) (seats : List (SeatView B C)) : Type 0 where
  pub count : length seats ≡ actor_count
  pub each : (number : ℕ) (seat : SeatView B C) → get_elem? seats number ≡ some seat → IsOfActor of number seat

-- the seat of an application of this service
pub record IsAppOf {B C : Type 0} (of : TableId) (seat : SeatView B C) : Type 0 where
  pub of_it : seat.of ≡ of
  pub least : 1 ≤ actor_number seat.actor
  pub most : actor_number seat.actor ≤ 16

-- no call was made by it
pub record IsFresh {B C : Type 0} (seat : SeatView B C) : Type 0 where
  pub calls : seat.calls ≡ []
  pub saw : seat.saw ≡ 0
  pub met : seat.met ≡ None

abbrev pub AreFresh : {B C : Type 0} → List (SeatView B C) → Type 0
AreFresh {B} {C} seats = (number : ℕ) (seat : SeatView B C) → get_elem? seats number ≡ some seat → IsFresh seat

-- the seats of so many actors, in order, before their first calls
pub record AreDealt {B C : Type 0} (of : TableId) (many : ℕ) (seats : List (SeatView B C)) : Type 0 where
  pub count : length seats ≡ many
  pub each : (number : ℕ) (seat : SeatView B C) → get_elem? seats number ≡ some seat → IsOfActor of number seat × IsFresh seat

-- The place of so many actors, from one on, before they are dealt seats, at a lock with this value.
pub record MayDeal {B C : Type 0} (of : TableId) (first : ServedView B C) (place : Place (ServedView B C)) (from count : ℕ) : Type 0 where
  -- it is at this lock
  pub own : place.table_id ≡ of
  -- each of them saw this value
  pub idle : Idle place.me from (replicate count first)
  -- there are such actors
  pub some : 0 < count
  pub within : from + count ≤ actor_count
  -- no call was made, and no step answered a fault
  pub base : first.base ≡ length first.core.entries
  pub calm : first.fault ≡ None

-- ---- at the end

-- the place of all actors, each of whom saw its last value
pub record AreGathered {B C : Type 0} (of : TableId) (seats : List (SeatView B C)) (place : Place (ServedView B C)) : Type 0 where
  pub own : place.table_id ≡ of
  pub idle : Idle place.me 0 place.me.0.seen
  pub all : length place.me.0.seen ≡ actor_count
  pub each : AreOf 0 place.me.0.seen seats

-- What a seat says of this core: its calls are all that the history has of its actor from the place `base` on, it saw no more entries than
-- there are, and a fault that it met is one that a step answered, after which the service has ended.
pub record TellsOf {B C : Type 0} (base : ℕ) (core : CoreView B C) (seat : SeatView B C) : Type 0 where
  pub calls : seat.calls ≡ own base (actor_number seat.actor) core.entries
  pub saw : seat.saw ≤ length core.entries
  pub met : (fault : StepFault) → seat.met ≡ Some fault → HasEnded fault base core
