-- A copy of an engine.
use Rattle.std.specs.Prelude.{◌≡◌, List, Option}
use Rattle.tbl_model.specs.State.{State}
use Rattle.tbl_kinds.specs.declared.entry.Entry.{Entry}
use Rattle.tbl_outside.specs.declared.bank.Bank.{Ghosts}
use Rattle.tbl_outside.specs.declared.validator.KitEntry.{KitEntry}
use Rattle.tbl_core.specs.Service.{EngineView, Stands, IsAfter}

-- the same engine over another bank, and with other validation functions
abbrev pub moved : {B C : Type 0} → B → List (Option (KitEntry C)) → EngineView B C → EngineView B C
moved bank kit engine = record engine { state = record engine.state { store = record engine.state.store { bank = bank }; kit = kit } }

-- the copy is the engine over this bank and with these functions, and stands for whatever the engine stands for
pub record IsCopy {B C : Type 0} (g : Ghosts B) (bank : B) (kit : List (Option (KitEntry C))) (engine copy : EngineView B C) : Type 0 where
  pub same : copy ≡ moved bank kit engine
  pub stands : (opening : State) (past : List Entry) → Stands g opening past engine → Stands g opening past copy
  pub after : (past : List Entry) → IsAfter past engine → IsAfter past copy
