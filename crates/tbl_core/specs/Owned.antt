-- What the owner of a table asks for it, by the table that its handle leads to, and what a command asks.
use Rattle.std.specs.Prelude.{ℕ, Option, Some, None, Ok}
use Rattle.tbl_model.specs.State.{State, Table}
use Rattle.tbl_model.specs.Effects.{Effect}
use Rattle.tbl_model.specs.Given.{Given}
use Rattle.tbl_model.specs.Refusals.{by_answer, closed_refusal, update_refusal}
use Rattle.tbl_model.specs.Subjects.{if_file}
use Rattle.tbl_model.specs.AppLoads.{load_image_of, load_file_of}
use Rattle.tbl_model.specs.Activations.{updated_effect}
use Rattle.tbl_model.specs.Validations.{first_pending, do_validation}
use Rattle.tbl_model.specs.Management.{managed_effect, manage_answer, all_done}
use Rattle.std.specs.Option.{option_map}
use Rattle.tbl_model.specs.Copies.{then_copy}
use Rattle.tbl_model.specs.Dumps.{filled_effect, edited_effect}
use Rattle.tbl_model.specs.Sharing.{noticed_effect}
use Rattle.tbl_model.specs.Commands.{effect_by}
use Rattle.tbl_model.specs.Tables.{table_at}
use Rattle.tbl_kinds.specs.GroundCommands.{GroundCommand}
use Rattle.tbl_kinds.specs.Notes.{untouched}
use Rattle.desk.specs.Requests.{Meaning, command}
use Rattle.desk.specs.Rooms.{copy_room}
use Rattle.tbl_kinds.specs.declared.note.BankNote.{BankNote}
use Rattle.tbl_kinds.specs.declared.request.Request.{Request}
use Rattle.tbl_kinds.specs.declared.request.Request.TheVariants as ask

-- no other call is reserved for the owner
abbrev pub owned_effect : State → ℕ → Table → Request → Given → Option Effect
owned_effect s row t (ask.LoadImage handle image) given = Some (load_image_of s image.list given row t)
owned_effect s row t (ask.LoadFile handle name) given = Some (by_answer s (closed_refusal t) (if_file s name (load_file_of s name given row t)))
owned_effect s row t (ask.Update handle) given = Some (by_answer s (update_refusal s.tables row t) (updated_effect s row t))
owned_effect s row t (ask.Validate handle) given = Some (do_validation s given row t (first_pending s.pending row))
owned_effect s row t (ask.Manage handle) given = Some (managed_effect s (manage_answer s.tables row t) (all_done s given row))
owned_effect s row t (ask.DumpToBuffer handle) given = Some (filled_effect s row t)
owned_effect s row t (ask.Edit handle offset bytes) given = Some (edited_effect s row t offset bytes.list)
owned_effect s row t (ask.Notify handle msg code parameter) given = Some (noticed_effect s row msg code parameter)
owned_effect s row t _ given = None

abbrev pub owned_at : Option Table → State → ℕ → Request → Given → Option Effect
owned_at None s row request given = None
owned_at (Some t) s row request given = owned_effect s row t request given

-- after a call that can make an image active, that of a critical table is copied
abbrev pub copied_at : Request → ℕ → BankNote → Option Effect → Option Effect
copied_at (ask.LoadImage handle image) row note o = option_map (then_copy row note) o
copied_at (ask.LoadFile handle name) row note o = option_map (then_copy row note) o
copied_at (ask.Update handle) row note o = option_map (then_copy row note) o
copied_at (ask.Manage handle) row note o = option_map (then_copy row note) o
copied_at _ row note o = o

-- what the owner of the table in a row asks for it, as a request about tables: its events are those of a load or of all that is pending,
-- and the event of a copy that failed may come after them
abbrev pub owned : ℕ → Request → Meaning
owned row request = record { effect = λ s given. owned_at (table_at s.tables row) s row request given; most = 3; more = λ tables. copy_room (table_at tables row) }

-- the same of a command that calls nothing of the store
abbrev pub commanded : GroundCommand → Meaning
commanded read = command (λ s. effect_by s (Ok read) untouched) 4
