-- A service as it is opened and closed.
use Rattle.std.specs.Prelude.{◌≡◌, ◌<◌, ◌≤◌, ℕ, List, ◌∷◌, length, slice_index_or}
use Rattle.std.proofs.Common.{ℤ}
use mathlib.Core.Option.{some}
use lib.ListN.{get_elem?}
use Rattle.tbl_outside.specs.declared.bank.Bank.{Ghosts}
use Rattle.tbl_session.specs.Openings.{Opening}
use Rattle.tbl_session.specs.Served.{IsServed}
use Rattle.tbl_core.specs.Service.{CoreView}
use Rattle.tbl_history.specs.Serving.{Serves}
use Rattle.tbl_live.specs.Moves.{Extends}
use Rattle.tbl_live.specs.Seats.{ServiceView, SeatView, AreSeats, AreFresh, IsAppOf, IsSame, TellsOf}
use Rattle.tbl_live.specs.declared.seats.Seats.{Seats}

-- the seats in the order of their actors' numbers
abbrev pub seats_of : {B C K : Type 0} → Seats B C K → List (SeatView B C)
seats_of seats = seats.ground ∷ seats.apps.items

-- these are the seats of the service
abbrev pub HasSeats : {B C K : Type 0} → ServiceView B C → Seats B C K → Type 0
HasSeats service seats = AreSeats service.of (seats_of seats)

-- the seat of an application of the service
abbrev pub IsApp : {B C : Type 0} → ServiceView B C → SeatView B C → Type 0
IsApp service seat = IsAppOf service.of seat

-- a seat over calls: it is still of its service and its actor, and so that of an application of this service if it was
pub record StaysSeat {B C : Type 0} (service : ServiceView B C) (old new : SeatView B C) : Type 0 where
  pub same : IsSame old new
  pub app : IsApp service old → IsApp service new

-- each of these seats is still of its service and its actor
pub record AreSame {B C : Type 0} (old new : List (SeatView B C)) : Type 0 where
  pub count : length new ≡ length old
  pub each : (i : ℕ) (d : SeatView B C) → i < length old → IsSame (slice_index_or old i d) (slice_index_or new i d)

-- A service that was opened over a core, and its seats.
pub record Opens {B C K : Type 0} (core : CoreView B C) (service : ServiceView B C) (dealt : Seats B C K) : Type 0 where
  pub opened : service.opened ≡ core
  pub seats : HasSeats service dealt
  -- no call was made by any of them
  pub fresh : AreFresh (seats_of dealt)

-- The core that comes back of a service that was opened over another one, with all calls in its history.
pub record Closes {B C : Type 0} (g : Ghosts B) (verdict : C → List ℕ → ℤ) (limit : ℕ) (opened : CoreView B C) (seats : List (SeatView B C)) (core : CoreView B C) : Type 0 where
  -- whatever opening the core represented as the service opened, it still represents
  pub serves : (o : Opening B C) → Serves g verdict o opened → Serves g verdict o core
  -- so all that a session promises of its history holds of this one
  pub served : (o : Opening B C) → Serves g verdict o opened → IsServed g verdict o core.state.store.bank core.entries
  -- the history begins with that of then, and the calls are after it
  pub extends : Extends opened.entries core.entries
  -- it has no more entries than there may be
  pub few : length opened.entries ≤ limit → length core.entries ≤ limit
  -- each seat's calls are all that the history has of its actor since
  pub own : (number : ℕ) (seat : SeatView B C) → get_elem? seats number ≡ some seat → TellsOf (length opened.entries) core seat
