-- What a reset at any moment leaves of the bank of a core.
use Rattle.std.specs.Prelude.{List, ℕ}
use Rattle.tbl_model.specs.State.{State}
use Rattle.tbl_outside.specs.Bank.{LeavesOnly}
use Rattle.tbl_outside.specs.declared.bank.Bank.{Ghosts}
use Rattle.tbl_session.specs.Moments.{AtSomePlace, AtExit, AllGaveLeft}
use Rattle.tbl_core.specs.Service.{CoreView, FollowsFrom}

-- of a core that began with this bank: since then a reset left the blocks of a place of its history, at its last moment those of the last
-- one, and what a restore gave was in an image that a reset left
pub record Survives {B C : Type 0} (g : Ghosts B) (opening : State) (bank : B) (core : CoreView B C) : Type 0 where
  pub stands : FollowsFrom g opening core
  pub moments : g.tells_moments → LeavesOnly g.clock g.left_since bank core.state.store.bank (AtSomePlace opening core.entries)
  pub exit : g.tells_moments → (image : List ℕ) → g.may_leave core.state.store.bank image → AtExit opening core.entries image
  pub restored : g.tells_moments → AllGaveLeft (g.left_since core.state.store.bank (g.clock bank)) opening core.entries
