-- The watcher at the lock.
use Rattle.std.specs.Prelude.{◌≡◌, ℕ, List, Result, OnOk, drop}
use Rattle.std.proofs.Common.{ℤ}
use Rattle.tbl_outside.specs.declared.bank.Bank.{Ghosts}
use Rattle.table_watch.specs.Watching.{watcher}
use Rattle.table_watch.specs.declared.watch.Look.{Look}
use Rattle.tbl_session.specs.Actors.{actor_count}
use Rattle.turn_lock.specs.Turns.{IsSeat}
use Rattle.tbl_crew.specs.Moves.{HaveEnded}
use Rattle.tbl_crew.specs.Seats.{Place, MayPlay, first_crew}
use Rattle.tbl_crew.specs.Watching.{HaveWatched, HaveLooked}
use Rattle.tbl_crew.specs.declared.turns.Workplace.{Workplace}

-- Before the watcher plays.
pub record MayWatch {B C G R : Type 0} (g : Ghosts B) (verdict : C → List ℕ → ℤ) (room : Workplace B C G R) (place : Place B C) (looks : List Look) : Type 0 where
  -- the seat is its own
  pub play : MayPlay room place watcher 1
  -- these are the looks of the history that it saw
  pub watched : HaveWatched g verdict (first_crew room) looks place.me.0.seen

-- Before any actor plays.
pub record MayWatchAll {B C G R : Type 0} (g : Ghosts B) (verdict : C → List ℕ → ℤ) (room : Workplace B C G R) (place : Place B C) (looks : List Look) : Type 0 where
  -- the seat is of all actors
  pub play : MayPlay room place 0 actor_count
  -- these are the looks of the history that the watcher, the last of them, saw
  pub watched : HaveWatched g verdict (first_crew room) looks (drop watcher place.me.0.seen)

-- After the watcher has played, by its answer: its seat, the looks, and what came of them.
pub record WatchesOn {B C G R M : Type 0} (g : Ghosts B) (verdict : C → List ℕ → ℤ) (room : Workplace B C G R) (old : Place B C) (answer : Place B C × List Look × Result Unit M) : Type 0 where
  -- its seat is at the same lock
  pub own : answer.0.table_id ≡ old.table_id
  -- it is its own alone
  pub seat : IsSeat answer.0.me watcher 1
  -- it has played its script to the end, unless a step answered a fault or memory ran out for a look
  pub ended : OnOk answer.2 (HaveEnded watcher answer.0.me.0.seen)
  -- these are the looks of the history that it saw, except that one
  pub looked : HaveLooked g verdict (first_crew room) answer.2 answer.1 answer.0.me.0.seen
