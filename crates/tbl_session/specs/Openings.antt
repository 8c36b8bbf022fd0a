-- How a service began.
use Rattle.std.specs.Prelude.{◌≡◌, List, [], Option}
use Rattle.tbl_model.specs.State.{State, no_tables}
use Rattle.tbl_outside.specs.declared.validator.KitEntry.{KitEntry}
use Rattle.tbl_session.specs.Backed.{AreSingle}

-- the state, the bank and the validation functions that it began with
pub record Opening (B C : Type 0) : Type 0 where
  pub state : State
  pub bank : B
  pub given : List (Option (KitEntry C))

-- no table was there, no validation was pending, and no two blocks were of one kind and name
pub record IsFirst (s : State) : Type 0 where
  pub tables : s.tables ≡ no_tables
  pub pending : s.pending ≡ []
  pub single : AreSingle s.store
