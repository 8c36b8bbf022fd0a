-- A service at its start, which keeps a history.
use Rattle.std.specs.Prelude.{◌≡◌, ℕ, List, [], false}
use Rattle.std.proofs.Common.{ℤ}
use Rattle.tbl_outside.specs.declared.bank.Bank.{Ghosts}
use Rattle.tbl_core.specs.Service.{CoreView}
use Rattle.tbl_session.specs.Openings.{Opening}
use Rattle.tbl_history.specs.Serving.{Serves}

-- A service at its start.
pub record IsFresh {B C : Type 0} (g : Ghosts B) (verdict : C → List ℕ → ℤ) (o : Opening B C) (core : CoreView B C) : Type 0 where
  -- it has played nothing
  pub empty : core.entries ≡ []
  -- it hasn't ended
  pub live : core.state.ended ≡ false
  -- it keeps to all that this opening promises
  pub serves : Serves g verdict o core

-- there is an opening with which it began
abbrev pub HasBegun : {B C : Type 0} → Ghosts B → (C → List ℕ → ℤ) → CoreView B C → Type 0
HasBegun {B} {C} g verdict core = (o : Opening B C) × IsFresh g verdict o core
