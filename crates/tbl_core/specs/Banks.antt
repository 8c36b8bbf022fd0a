-- Another bank in the place of the one that an engine has.
use Rattle.std.specs.Prelude.{◌≡◌, List}
use Rattle.tbl_model.specs.State.{State}
use Rattle.tbl_kinds.specs.declared.entry.Entry.{Entry}
use Rattle.tbl_outside.specs.declared.bank.Bank.{Ghosts}
use Rattle.tbl_core.specs.Service.{EngineView, Stands, IsAfter}

-- the engine with this bank
abbrev pub with_bank : {B C : Type 0} → B → EngineView B C → EngineView B C
with_bank bank engine = record engine { state = record engine.state { store = record engine.state.store { bank = bank } } }

-- it has this bank, and stands for whatever it stood for
pub record HasBank {B C : Type 0} (g : Ghosts B) (bank : B) (old new : EngineView B C) : Type 0 where
  pub is : new ≡ with_bank bank old
  pub stands : (opening : State) (past : List Entry) → Stands g opening past old → Stands g opening past new
  pub after : (past : List Entry) → IsAfter past old → IsAfter past new
