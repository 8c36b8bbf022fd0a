-- What a registration takes, and what it makes.
use Rattle.std.specs.Prelude.{◌≡◌, ℕ, ◌<◌, ◌≤◌, List, true, false, Option, None, Result, Ok, Err, IsSome, unwrap_or}
use Rattle.tbl_kinds.specs.Free.{least_free}
use Rattle.tbl_kinds.specs.Limits.{table_limit}
use Rattle.tbl_kinds.specs.Names.{is_name}
use Rattle.tbl_kinds.specs.declared.entry.Answer.{Answer}
use Rattle.tbl_kinds.specs.declared.note.BankNote.{BankNote}
use Rattle.tbl_kinds.specs.declared.status.Status.{Status}
use Rattle.tbl_model.specs.State.{State, Table, Tables}
use Rattle.tbl_model.specs.Tables.{option_bits}
use Rattle.tbl_model.specs.TableSteps.{find, new_table, added}
use Rattle.tbl_model.specs.Effects.{Effect, answered}
use Rattle.tbl_model.specs.BankCounts.{tells_trouble}
use Rattle.tbl_model.specs.Refusals.{are_options, may_use}
use Rattle.tbl_model.specs.Registration.{new_effect, register_effect}
use Rattle.tbl_registry.specs.declared.row.NewTable.{NewTable}
use Rattle.sharing.specs.declared.registering.Registration.{Registration}

-- the row and the handle that the next table takes
abbrev pub next_row : Tables → ℕ
next_row tables = unwrap_or (least_free tables.rows) 0

abbrev pub next_handle : Tables → ℕ
next_handle tables = unwrap_or (least_free tables.handles) 0

-- the table of this application that a plan makes
abbrev pub planned : Tables → ℕ → NewTable → Table
planned tables app plan = new_table plan.name app plan.size (option_bits plan.flags) plan.validator (next_handle tables)

-- nothing is in the way of this plan
pub record CanRegister (tables : Tables) (plan : NewTable) : Type 0 where
  pub named : is_name plan.name ≡ true
  pub new : find plan.name tables ≡ None
  pub some_bytes : 0 < plan.size
  pub within : plan.size ≤ table_limit
  pub options : are_options (option_bits plan.flags) ≡ true
  pub row : IsSome (least_free tables.rows)
  pub handle : IsSome (least_free tables.handles)

-- nor has it an image yet
pub record IsPlan (tables : Tables) (plan : NewTable) : Type 0 where
  pub can : CanRegister tables plan
  pub begins : plan.first ≡ None

-- what an application's registration means
abbrev pub registering : State → ℕ → Registration → BankNote → Effect
registering s app asked note = register_effect s app asked.name asked.size asked.flags asked.validator note

-- a state with what a registration reads: the tables, the owners of functions, and the applications that run
abbrev pub reading : Tables → List (Option ℕ) → List (Option (List ℕ)) → State → State
reading tables kit apps s = record s { tables = tables; kit = kit; apps = apps }

-- what an application asked for makes this plan
pub record Plans (tables : Tables) (kit : List (Option ℕ)) (apps : List (Option (List ℕ))) (app : ℕ) (asked : Registration) (plan : NewTable) : Type 0 where
  pub is : IsPlan tables plan
  pub may : may_use kit app plan.validator ≡ true
  pub effect : (s : State) (note : BankNote) → registering (reading tables kit apps s) app asked note ≡ new_effect (reading tables kit apps s) (next_row tables) (planned tables app plan) note

-- it is refused with this answer, which reports no trouble with the bank
pub record Refuses (tables : Tables) (kit : List (Option ℕ)) (apps : List (Option (List ℕ))) (app : ℕ) (asked : Registration) (answer : Answer) : Type 0 where
  pub effect : (s : State) (note : BankNote) → registering (reading tables kit apps s) app asked note ≡ answered (reading tables kit apps s) answer.status answer.detail
  pub harmless : tells_trouble answer.status ≡ false

abbrev pub Planned : Tables → List (Option ℕ) → List (Option (List ℕ)) → ℕ → Registration → Result NewTable Answer → Type 0
Planned tables kit apps app asked (Ok plan) = Plans tables kit apps app asked plan
Planned tables kit apps app asked (Err answer) = Refuses tables kit apps app asked answer

-- this table takes the next row and the next handle, which the answer gives
pub record TakesPlace (old new : Tables) (t : Table) (status : Status) (given : Answer) : Type 0 where
  pub answer : given ≡ record { status = status; detail = next_handle old }
  pub tables : new ≡ added (next_row old) t old

-- or memory ran out, and nothing changed
abbrev pub Placed : {E : Type 0} → Tables → Tables → Table → Status → Result Answer E → Type 0
Placed old new t status (Ok given) = TakesPlace old new t status given
Placed old new t status (Err e) = new ≡ old
