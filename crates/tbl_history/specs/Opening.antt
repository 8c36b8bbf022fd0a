-- A service at its start, or none.
use Rattle.std.specs.Prelude.{◌≡◌, ℕ, List, [], false, Result, Ok, Err}
use Rattle.std.proofs.Common.{ℤ}
use Rattle.tbl_outside.specs.Counts.{Still}
use Rattle.tbl_outside.specs.declared.bank.Back.{Back}
use Rattle.tbl_outside.specs.declared.bank.Bank.{Ghosts}
use Rattle.tbl_session.specs.Openings.{Opening}
use Rattle.tbl_core.specs.Starting.{HandsBack, LeavesShown}
use Rattle.tbl_core.specs.Service.{CoreView}
use Rattle.tbl_core.specs.declared.service.StartFault.{StartFault}
use Rattle.tbl_history.specs.Serving.{Serves}

-- a service over the bank of this opening, with an empty history
pub record IsStarted {B C : Type 0} (g : Ghosts B) (verdict : C → List ℕ → ℤ) (o : Opening B C) (core : CoreView B C) : Type 0 where
  pub empty : core.entries ≡ []
  pub live : core.state.ended ≡ false
  pub serves : Serves g verdict o core
  pub counts : Still g.faults g.stops o.bank core.state.store.bank
  pub crash : LeavesShown g o.bank core.state.store.bank

abbrev pub Starts : {B C : Type 0} → Ghosts B → (C → List ℕ → ℤ) → Opening B C → Result (CoreView B C) (Back StartFault B) → Type 0
Starts g verdict o (Ok core) = IsStarted g verdict o core
Starts g verdict o (Err back) = HandsBack g o.bank back.bank back.cause
