-- Seats at the lock, and what workers know by them.
use Rattle.std.specs.Prelude.{◌≡◌, ℕ, ◌<◌, List, Option, slice_index}
use Rattle.std.proofs.Common.{ℤ}
use Rattle.atomic_table.specs.declared.shared.Seat.{Seat}
use Rattle.turn_lock.specs.Turns.{IsSeat}
use Rattle.turn_lock.specs.declared.rule.View.{View}
use Rattle.tbl_registry.specs.declared.pin.Pin.{Pin}
use Rattle.tbl_session.specs.Actors.{actor_count}
use Rattle.tbl_crew.specs.CrewView.{CrewView}
use Rattle.tbl_crew.specs.Moves.{HaveEnded, HaveLeft, HaveTurned, AreKnown}
use Rattle.tbl_crew.specs.declared.held.ReadPlan.{ReadPlan}
use Rattle.tbl_crew.specs.declared.held.Turn.{Turn}
use Rattle.tbl_crew.specs.declared.turns.Workplace.{Workplace}
use Rattle.tbl_outside.specs.declared.bank.Bank.{Ghosts}

abbrev pub Place : Type 0 → Type 0 → Type 0
Place B C = Seat (Option (CrewView B C)) (View (CrewView B C))

-- the crew that the lock was made with
abbrev pub first_crew : {B C G R : Type 0} → Workplace B C G R → CrewView B C
first_crew room = room.lock.now.table.shared.key.value

-- The seat of so many actors, from one on, which has been another one of the same lock before.
pub record SitsAs {B C : Type 0} (old new : Place B C) (from count : ℕ) : Type 0 where
  -- it is at the same lock
  pub own : new.table_id ≡ old.table_id
  -- it is theirs alone
  pub seat : IsSeat new.me from count

-- Before so many actors play, from one on.
pub record MayPlay {B C G R : Type 0} (room : Workplace B C G R) (place : Place B C) (from count : ℕ) : Type 0 where
  -- their seat is at the lock
  pub own : place.table_id ≡ room.lock.now.table.shared.table_id
  -- it is theirs alone
  pub seat : IsSeat place.me from count
  -- each has so many requests to ask
  pub left : HaveLeft (slice_index room.counts.now) from place.me.0.seen

-- After they have played.
pub record ArePlayed {B C : Type 0} (old new : Place B C) (from count : ℕ) : Type 0 where
  -- their seat is at the same lock
  pub own : new.table_id ≡ old.table_id
  -- it is theirs alone
  pub seat : IsSeat new.me from count
  -- each has played its script to the end, unless a step answered a fault
  pub ended : HaveEnded from new.me.0.seen

-- Between two turns of one actor.
pub record IsAtWork {B C G R : Type 0} (room : Workplace B C G R) (actor : ℕ) (pins : List Pin) (plan : Option ReadPlan) (place : Place B C) : Type 0 where
  -- there is such an actor
  pub within : actor < actor_count
  -- its seat is at the lock
  pub own : place.table_id ≡ room.lock.now.table.shared.table_id
  -- it is its own alone
  pub seat : IsSeat place.me actor 1
  -- each of the pins was lent to it, and this is what it reads next, if that is known
  pub known : AreKnown pins plan actor place.me.0.seen

-- A turn of one actor, by its answer: what came of it, and what the actor reads next.
pub record HasWorked {B C : Type 0} (g : Ghosts B) (verdict : C → List ℕ → ℤ) (actor : ℕ) (pins : List Pin) (answer : Turn × Option ReadPlan) (old new : Place B C) : Type 0 where
  -- its seat is at the same lock
  pub own : new.table_id ≡ old.table_id
  -- it is its own alone
  pub seat : IsSeat new.me actor 1
  -- each of the pins was lent to it, and it reads this next
  pub known : AreKnown pins answer.1 actor new.me.0.seen
  -- others had turns, and then it had this one
  pub turned : HaveTurned g verdict actor answer.0 old.me.0.seen new.me.0.seen
