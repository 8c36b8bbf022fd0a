-- What the ground's dumps come to on the way.
use Rattle.std.specs.Prelude.{ℕ, ◌≤◌, List, Bool, Option, Some, IsSome, if◌then◌else◌, Result, Ok, Err}
use Rattle.tbl_model.specs.State.{State}
use Rattle.tbl_model.specs.Effects.{Effect, answered}
use Rattle.tbl_model.specs.Tables.{table_at}
use Rattle.tbl_model.specs.Validations.{selected}
use Rattle.tbl_model.specs.Dumps.{written_effect, ask_dump_effect, dump_by}
use Rattle.tbl_kinds.specs.Buffers.{Buffer}
use Rattle.tbl_kinds.specs.declared.status.Status.{Status}
use Rattle.tbl_kinds.specs.declared.status.TheConstants.Status.{ERR_NEVER_LOADED, ERR_NO_LOAD}
use Rattle.desk.specs.Limits.{AreSendable}
use Rattle.desk.specs.Desk.{Output, IsEmpty}
use Rattle.desk.specs.Requests.{Meaning, for_row, command}
use Rattle.desk.specs.declared.desk.Desk.{Desk}

-- the table in the row is there, and its owner can be notified; nothing is answered yet, and there is room for the rows that have the shared
-- buffers, and for two events
pub record CanDump {C : Type 0} (row : ℕ) (desk : Desk C) (out : Output) : Type 0 where
  pub table : IsSome (table_at desk.tables row)
  pub notices : AreSendable desk.tables
  pub empty : IsEmpty out
  pub users : 4 ≤ out.reply.bytes.spare
  pub packets : 48 ≤ out.reply.packets.spare

-- a file of these bytes is written, of the table in a row or of the registry
abbrev pub file_dump : Option ℕ → List ℕ → List ℕ → Meaning
file_dump row file bytes = command (λ s. written_effect s row file bytes) 1

-- a dump of the table in a row, as it was selected: its image is written, or its owner is asked
abbrev pub table_dump : ℕ → ℕ → List ℕ → Meaning
table_dump row select file = for_row row (λ s given t. dump_by s file row t (selected t select)) 1 (λ tables. 24)

-- a dump of the dump-only table in a row, which its owner fills
abbrev pub owner_dump : ℕ → List ℕ → Meaning
owner_dump row file = for_row row (λ s given t. ask_dump_effect s file row t) 1 (λ tables. 24)

-- the answer if the last image is missing, or that of the open load
abbrev pub missing_status : Bool → Status
missing_status active = if active then ERR_NEVER_LOADED else ERR_NO_LOAD

-- what a dump of the table in a row comes to whose file has these bytes, or that is refused so
abbrev pub comes_to : State → ℕ → List ℕ → Result Buffer Status → Effect
comes_to s row file (Ok contents) = written_effect s (Some row) file contents.list
comes_to s row file (Err status) = answered s status 0
