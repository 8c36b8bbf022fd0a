-- The seats of a flight between its calls, and what it brings back.
use Rattle.std.specs.Prelude.{◌≡◌, ℕ, ◌<◌, List, length, All, slice_index_or}
use Rattle.tbl_live.specs.Boards.{IsOfBoard, BoardView, TicketView}
use Rattle.tbl_live.specs.Seats.{SeatView, IsSame}
use Rattle.live_example.specs.declared.flight.Flown.{Flown}

-- each of these seats is still of its service and its actor
pub record AreSame {B C : Type 0} (old new : List (SeatView B C)) : Type 0 where
  pub count : length new ≡ length old
  pub each : (i : ℕ) (d : SeatView B C) → i < length old → IsSame (slice_index_or old i d) (slice_index_or new i d)

-- each of these tickets is of this board
abbrev pub AreOfBoard : BoardView → List TicketView → Type 0
AreOfBoard board tickets = All (IsOfBoard board) tickets

-- its receipts are on this board
pub record AreShown (board : BoardView) (flown : Flown) : Type 0 where
  pub guidance : AreOfBoard board flown.guidance
  pub thermal : AreOfBoard board flown.thermal
  pub grounds : AreOfBoard board flown.ground
