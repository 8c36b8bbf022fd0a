-- What a registration promises, and what the model says of the block of a critical table.
use Rattle.std.specs.Prelude.{◌≡◌, ◌⊎◌, ℕ, suc, List, [], ◌∷◌, length, Option, Result, Ok, Err, IfSome}
use Rattle.tbl_kinds.specs.Notes.{restored_image}
use Rattle.tbl_kinds.specs.StoreCalls.{restore}
use Rattle.tbl_kinds.specs.StoreSteps.{open_of}
use Rattle.tbl_kinds.specs.declared.block.BlockKind.TheVariants as kind
use Rattle.tbl_kinds.specs.declared.note.BankNote.{BankNote}
use Rattle.tbl_kinds.specs.declared.status.TheConstants.Status.{SUCCESS}
use Rattle.tbl_model.specs.State.{State, Table, Tables}
use Rattle.tbl_model.specs.Effects.{Effect as Model}
use Rattle.tbl_model.specs.Fit.{AreFit}
use Rattle.tbl_model.specs.StoreUse.{then_call}
use Rattle.tbl_model.specs.AppBlocks.{renewal}
use Rattle.tbl_model.specs.CriticalTables.{registered, not_kept, recovered, instead, kept_effect}
use Rattle.tbl_model.specs.TableSteps.{new_table, with_first, added}
use Rattle.tbl_registry.specs.declared.row.NewTable.{NewTable}
use Rattle.cds_store.specs.StoreBlocks.{StoreParts}
use Rattle.sharing.specs.Registering.{next_row, next_handle, planned, CanRegister}
use Rattle.store_requests.specs.Requests.{Site, Made, with_tables}
use Rattle.request_effects.specs.Effects.{Effect}
use Rattle.tbl_outside.specs.declared.bank.Bank.{Ghosts}

-- the registry and the store
pub record Books (B : Type 0) : Type 0 where
  pub tables : Tables
  pub store : StoreParts B

abbrev pub books : {B : Type 0} → Tables → StoreParts B → Books B
books tables store = record { tables = tables; store = store }

-- the tables are the old ones, or there is one more, of this plan's name, size and function, and an image that it begins with has its size
abbrev pub AtMostOne : Tables → Tables → ℕ → NewTable → Type 0
AtMostOne old new app plan =
    (new ≡ old)
    ⊎ ((options : ℕ) × (first : Option (List ℕ)) × IfSome first (λ image. length image ≡ plan.size)
    × (new ≡ added (next_row old) (with_first first (new_table plan.name app plan.size options plan.validator (next_handle old))) old))

-- of some plan that nothing was in the way of
abbrev pub RegistersOne : Tables → Tables → ℕ → Type 0
RegistersOne old new app = (new ≡ old) ⊎ ((plan : NewTable) × CanRegister old plan × AtMostOne old new app plan)

-- ---- what the model says of its block

-- it is restored from this slot
abbrev pub recovery : State → ℕ → Table → ℕ → BankNote → Model
recovery s row t slot note = then_call (restore slot (restored_image note) ∷ []) note (instead (not_kept s row t)) (recovered s row t (restored_image note))

-- it is made, after the deletion of one of another size
abbrev pub making : State → ℕ → Table → Option ℕ → BankNote → Model
making s row t old note = then_call (renewal kind.Table t.name t.size old) note (instead (not_kept s row t)) (registered s row t SUCCESS)

-- what a registration of this plan means, which is critical and finds a place for its block
abbrev pub keeping : State → Tables → ℕ → NewTable → BankNote → Model
keeping s old app plan note = kept_effect s (next_row old) (planned old app plan) note (open_of kind.Table plan.name s.store)

-- a critical table of this plan was registered, or not even that, as a call for its block was stopped
pub record Registers {B : Type 0} (g : Ghosts B) (old new : Books B) (app : ℕ) (plan : NewTable) (means : State → BankNote → Model) (done : Effect) : Type 0 where
  pub made : Made g (with_tables old.tables old.store) (with_tables new.tables new.store) means done
  pub one : AtMostOne old.tables new.tables app plan

-- or memory ran out, and nothing changed
abbrev pub Registered : {B E : Type 0} → Ghosts B → Books B → Books B → ℕ → NewTable → (State → BankNote → Model) → Result Effect E → Type 0
Registered g old new app plan means (Ok done) = Registers g old new app plan means done
Registered g old new app plan means (Err e) = new ≡ old

-- what holds of all tables still does, if no table had more images before than so many
abbrev pub KeepsFit : {B : Type 0} → Site B → Site B → Type 0
KeepsFit old new = (s : State) (n : ℕ) → AreFit n (old.state s) → AreFit (suc n) (new.state s)
