-- What a request is about: the application that makes it, the table that its handle leads to or that it names, a file.
use Rattle.std.specs.Prelude.{ℕ, ◌-◌, List, Bool, true, Option, Some, None, option_and_then, slice_get, Result, Ok, Err}
use Rattle.tbl_kinds.specs.Drawer.{contents_of}
use Rattle.tbl_kinds.specs.TableFiles.{TableFile, FileFlaw, file_flaw, file_status, file_detail, table_file_in}
use Rattle.tbl_model.specs.State.{State, Table}
use Rattle.tbl_model.specs.Tables.{table_at}
use Rattle.tbl_model.specs.TableSteps.{find, check}
use Rattle.tbl_model.specs.Effects.{Effect, answered, named}
use Rattle.tbl_kinds.specs.declared.status.Status.{Status}
use Rattle.tbl_kinds.specs.declared.status.TheConstants.Status.{ERR_BAD_APP, ERR_UNREGISTERED, ERR_FILE_NOT_FOUND, ERR_NO_SUCH_TABLE}

-- the name under which an application runs
abbrev pub name_of : State → ℕ → Option (List ℕ)
name_of s app = option_and_then (λ found. found) (slice_get s.apps (app - 1))

abbrev pub by_app : State → Option (List ℕ) → (List ℕ → Effect) → Effect
by_app s None effect = answered s ERR_BAD_APP 0
by_app s (Some name) effect = effect name

-- what a request does that only a running application may make, by the application's name
abbrev pub if_running : State → ℕ → (List ℕ → Effect) → Effect
if_running s app effect = by_app s (name_of s app) effect

abbrev pub by_check : State → Result ℕ Status → (ℕ → Effect) → Effect
by_check s (Err status) effect = answered s status 0
by_check s (Ok row) effect = effect row

-- and that needs a handle which the application may use, by the row of its table
abbrev pub if_handle : State → ℕ → ℕ → Bool → (ℕ → Effect) → Effect
if_handle s app handle owner_only effect = if_running s app (λ name. by_check s (check s.tables app handle owner_only) effect)

abbrev pub by_table : State → Status → Option Table → (Table → Effect) → Effect
by_table s missing None effect = answered s missing 0
by_table s missing (Some t) effect = effect t

-- the same by the table itself
abbrev pub if_its_table : State → ℕ → ℕ → Bool → (ℕ → Table → Effect) → Effect
if_its_table s app handle owner_only effect = if_handle s app handle owner_only (λ row. by_table s ERR_UNREGISTERED (table_at s.tables row) (effect row))

-- of a call that the table's owner alone may make
abbrev pub if_owner : State → ℕ → ℕ → (ℕ → Table → Effect) → Effect
if_owner s app handle effect = if_its_table s app handle true effect

abbrev pub by_row : State → List ℕ → Option ℕ → (ℕ → Table → Effect) → Effect
by_row s name None effect = answered s ERR_NO_SUCH_TABLE 0
by_row s name (Some row) effect = record (by_table s ERR_NO_SUCH_TABLE (table_at s.tables row) (effect row)) { table = named name (Some row) }

-- what a command does to the table of this full name. From where the table is found on, the command is about it
abbrev pub if_table : State → List ℕ → (ℕ → Table → Effect) → Effect
if_table s name effect = by_row s name (find name s.tables) effect

abbrev pub by_flaw : State → List ℕ → Option FileFlaw → (TableFile → Effect) → Effect
by_flaw s contents (Some flaw) effect = answered s (file_status flaw) (file_detail flaw)
by_flaw s contents None effect = effect (table_file_in contents)

abbrev pub by_contents : State → Option (List ℕ) → (TableFile → Effect) → Effect
by_contents s None effect = answered s ERR_FILE_NOT_FOUND 0
by_contents s (Some contents) effect = by_flaw s contents (file_flaw s.admit contents) effect

-- what is done with the uplinked table file of this name, by what the file tells; its spacecraft and its processor have to be admitted
abbrev pub if_file : State → List ℕ → (TableFile → Effect) → Effect
if_file s name effect = by_contents s (contents_of s.drawer name) effect
