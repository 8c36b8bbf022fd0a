-- What is left when handles are given up, and when an application ends.
use Rattle.std.specs.Prelude.{◌≡◌, ℕ, List, Bool}
use Rattle.tbl_model.specs.State.{State, Tables}
use Rattle.tbl_model.specs.Effects.{left_with}
use Rattle.validation.specs.Ready.{ArePending, HaveLoads}

-- handles were given up, and what they registered: each state with the old tables and pending validations came to the one with the new ones
pub record GivesUp (old new : Tables) (waited waits : List (ℕ × Bool)) (Leads : State → State → Type 0) : Type 0 where
  pub effect : (s : State) → s.tables ≡ old → s.pending ≡ waited → Leads s (left_with s new waits)
  -- what is pending can still be done
  pub pending : ArePending old waited → ArePending new waits
  pub loads : HaveLoads old → HaveLoads new
