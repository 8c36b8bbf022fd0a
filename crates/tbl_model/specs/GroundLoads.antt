-- What LOAD does: the bytes of an uplinked table file go into the load of its table.
use Rattle.std.specs.Prelude.{ℕ, List, length}
use Rattle.tbl_model.specs.State.{State, Table}
use Rattle.tbl_model.specs.TableSteps.{patch, set_file}
use Rattle.tbl_kinds.specs.TableFiles.{TableFile}
use Rattle.tbl_model.specs.Effects.{Effect, answered}
use Rattle.tbl_model.specs.Refusals.{by_refusal, load_refusal}
use Rattle.tbl_model.specs.Subjects.{if_table, if_file}
use Rattle.tbl_kinds.specs.declared.status.TheConstants.Status.{SUCCESS}

-- the file's bytes are in the load, which is opened where none is open, and the load isn't validated any more
abbrev pub loaded_effect : State → List ℕ → TableFile → ℕ → Effect
loaded_effect s name file row = record (answered s SUCCESS 0) { next = record s { tables = set_file row name (patch row file.offset file.image s.tables) } }

abbrev pub load_into : State → List ℕ → TableFile → ℕ → Table → Effect
load_into s name file row t = by_refusal s (load_refusal s.tables row t file.offset (length file.image)) (loaded_effect s name file row)

-- the effect of a table file, by the file's name
unfoldable pub load_file_effect : State → List ℕ → TableFile → Effect
load_file_effect s name file = if_table s file.name (load_into s name file)

unfoldable pub load_effect : State → List ℕ → Effect
load_effect s name = if_file s name (load_file_effect s name)
