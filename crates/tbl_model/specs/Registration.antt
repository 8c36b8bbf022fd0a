-- CFE_TBL_Register: applications register their tables.
use Rattle.std.specs.Prelude.{ℕ, ◌==◌, List, not, if◌then◌else◌, Option, Some, None, is_none, unwrap_or}
use Rattle.std.specs.Option.{option_map, option_or}
use Rattle.tbl_kinds.specs.Free.{least_free}
use Rattle.tbl_model.specs.State.{State, Table, Tables}
use Rattle.tbl_model.specs.Tables.{table_at, is_critical}
use Rattle.tbl_model.specs.TableSteps.{find, new_table, as_registered}
use Rattle.tbl_model.specs.Effects.{Effect}
use Rattle.tbl_model.specs.Subjects.{if_running}
use Rattle.tbl_model.specs.Refusals.{refusal, by_answer, plan_refusal}
use Rattle.tbl_model.specs.Applications.{full_name}
use Rattle.tbl_model.specs.CriticalTables.{registered, critical_effect}
use Rattle.tbl_kinds.specs.declared.entry.Answer.{Answer}
use Rattle.tbl_kinds.specs.declared.note.BankNote.{BankNote}
use Rattle.tbl_kinds.specs.declared.status.TheConstants.Status.{SUCCESS, WARN_DUPLICATE, ERR_DUPLICATE_NOT_OWNED, ERR_DUPLICATE_DIFF_SIZE, ERR_REGISTRY_FULL, ERR_HANDLES_FULL}

-- ---- refusals

-- where a table of the name is there: the application has registered it already, or why it can't
abbrev pub duplicate_answer : ℕ → ℕ → Option Table → Answer
duplicate_answer app size None = record { status = ERR_REGISTRY_FULL; detail = 0 }
duplicate_answer app size (Some t) =
    if not (t.owner == app) then record { status = ERR_DUPLICATE_NOT_OWNED; detail = 0 }
    else (if not (t.size == size) then record { status = ERR_DUPLICATE_DIFF_SIZE; detail = 0 }
    else record { status = WARN_DUPLICATE; detail = t.handle })

abbrev pub name_refusal : Tables → ℕ → ℕ → List ℕ → Option Answer
name_refusal tables app size name = option_map (λ row. duplicate_answer app size (table_at tables row)) (find name tables)

-- a row and a handle have to be free
abbrev pub place_refusal : Tables → Option Answer
place_refusal tables =
    if is_none (least_free tables.rows) then refusal ERR_REGISTRY_FULL
    else (if is_none (least_free tables.handles) then refusal ERR_HANDLES_FULL
    else None)

-- why no table of this full name and short name is registered
abbrev pub registration_refusal : State → ℕ → List ℕ → List ℕ → ℕ → ℕ → Option ℕ → Option Answer
registration_refusal s app name short size flags validator =
    option_or (plan_refusal s.kit app short size flags validator) (option_or (name_refusal s.tables app size name) (place_refusal s.tables))

-- ---- the new table

abbrev pub new_effect : State → ℕ → Table → BankNote → Effect
new_effect s row t note = if is_critical t then critical_effect s row t note else registered s row (as_registered t) SUCCESS

-- the table takes the least free handle
abbrev pub table_requested : State → ℕ → List ℕ → ℕ → ℕ → Option ℕ → Table
table_requested s app name size flags validator = new_table name app size flags validator (unwrap_or (least_free s.tables.handles) 0)

-- and the least free row, unless something refuses it
abbrev pub placed_effect : State → Option Answer → Table → BankNote → Effect
placed_effect s refused t note = by_answer s refused (new_effect s (unwrap_or (least_free s.tables.rows) 0) t note)

unfoldable pub register_effect : State → ℕ → List ℕ → ℕ → ℕ → Option ℕ → BankNote → Effect
register_effect s app short size flags validator note = if_running s app (λ app_name.
    let name = full_name app_name short in
    placed_effect s (registration_refusal s app name short size flags validator) (table_requested s app name size flags validator) note)
