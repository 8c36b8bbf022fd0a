-- What a request promises that calls the store.
use Rattle.std.specs.Prelude.{◌≡◌, Result, Ok, Err}
use Rattle.tbl_kinds.specs.declared.note.BankNote.{BankNote}
use Rattle.tbl_kinds.specs.declared.note.Outcome.{Outcome}
use Rattle.tbl_model.specs.State.{State, Tables}
use Rattle.tbl_model.specs.Effects as model
use Rattle.tbl_outside.specs.declared.bank.Bank.{Ghosts}
use Rattle.validation.specs.Kits.{owners}
use Rattle.cds_store.specs.StoreBlocks.{StoreParts, StandsFor}
use Rattle.request_effects.specs.Effects.{Effect}
use Rattle.desk.specs.declared.desk.Desk.{Desk}
use Rattle.store_requests.specs.Called.{Calls, IsCall, IsSilent}

-- what a request works on: the store, and any state with what else is there
pub record Site (B : Type 0) : Type 0 where
  pub store : StoreParts B
  pub state : State → State

-- the store alone
abbrev pub alone : {B : Type 0} → StoreParts B → Site B
alone store = record { store = store; state = λ s. s }

-- the store and the tables
abbrev pub with_tables : {B : Type 0} → Tables → StoreParts B → Site B
with_tables tables store = record { store = store; state = λ s. record s { tables = tables } }

-- the store and the desk, of which such a request reads the tables, the owners of functions, and the applications that run
abbrev pub at_desk : {B C : Type 0} → Desk C → StoreParts B → Site B
at_desk desk store = record { store = store; state = λ s. record s { tables = desk.tables; kit = owners desk.kit; apps = desk.apps } }

-- the request was made
pub record Made {B : Type 0} (g : Ghosts B) (old new : Site B) (means : State → BankNote → model.Effect) (done : Effect) : Type 0 where
  -- if the bank shows its bytes, this was its effect in each state whose blocks the store has, whatever a boot after it reports
  pub effect : g.tells → (s : State) → StandsFor g.tells g.now old.store s.store → Calls g old.store new.store (new.state s) done (means (old.state s))
  -- over any bank, its note and its answer have their causes
  pub call : IsCall g old.store new.store done

-- a request about blocks was made, no packet reports more than its answer, and the bank got the calls that it makes, and no others
pub record MadeAsking {B : Type 0} (g : Ghosts B) (old new : Site B) (means : State → BankNote → model.Effect)
    (Asks : Ghosts B → StoreParts B → StoreParts B → Outcome → Type 0) (done : Effect) : Type 0 where
  pub made : Made g old new means done
  pub silent : IsSilent done
  pub bank_calls : Asks g old.store new.store done.note.outcome

-- or memory ran out, and the store is as it was
abbrev pub Served : {B E : Type 0} → Ghosts B → Site B → Site B → (State → BankNote → model.Effect) → (Ghosts B → StoreParts B → StoreParts B → Outcome → Type 0) → Result Effect E → Type 0
Served g old new means Asks (Ok done) = MadeAsking g old new means Asks done
Served g old new means Asks (Err e) = new.store ≡ old.store
