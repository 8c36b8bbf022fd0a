-- What a service keeps to from its opening on.
use Rattle.std.specs.Prelude.{List, ℕ, Option}
use Rattle.std.proofs.Common.{ℤ}
use Rattle.tbl_model.specs.State.{State}
use Rattle.tbl_outside.specs.declared.bank.Bank.{Ghosts}
use Rattle.tbl_outside.specs.declared.validator.KitEntry.{KitEntry}
use Rattle.tbl_session.specs.Openings.{Opening, IsFirst}
use Rattle.tbl_core.specs.Service.{CoreView, FollowsFrom, Vouches}
use Rattle.tbl_history.specs.Surviving.{Survives}
use Rattle.tbl_history.specs.Trouble.{IsCaused}

-- The core began so: its history is legal from the opening state on, and its verdicts are those of the functions that were given; a reset
-- at any moment since leaves the blocks of a place of it; and the counts of the bank rose by what it says.
pub record Serves {B C : Type 0} (g : Ghosts B) (verdict : C → List ℕ → ℤ) (o : Opening B C) (core : CoreView B C) : Type 0 where
  pub first : IsFirst o.state
  pub vouches : Vouches g verdict o.given o.state core
  pub survives : Survives g o.state o.bank core
  pub caused : IsCaused g o.bank core

-- Whatever the old core keeps to, the new one does, each part by itself: so a caller that knows only one part keeps that.
pub record Continues {B C : Type 0} (g : Ghosts B) (verdict : C → List ℕ → ℤ) (old new : CoreView B C) : Type 0 where
  pub stands : (opening : State) → FollowsFrom g opening old → FollowsFrom g opening new
  pub vouches : (opening : State) (given : List (Option (KitEntry C))) → Vouches g verdict given opening old → Vouches g verdict given opening new
  pub survives : (opening : State) (bank : B) → Survives g opening bank old → Survives g opening bank new
  pub caused : (bank : B) → IsCaused g bank old → IsCaused g bank new
