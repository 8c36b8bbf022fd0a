-- What a request asks, for what telemetry reports of it.
use Rattle.std.specs.Prelude.{◌≡◌, ℕ, List, Bool, true, false, Option, Some, None, Result, Ok, Err}
use Rattle.tbl_kinds.specs.GroundCommands.{GroundCommand, delete_cds}
use Rattle.tbl_model.specs.Commands as model
use Rattle.tbl_model.specs.State.{State, Table, Tables}
use Rattle.tbl_model.specs.Tables.{table_at}
use Rattle.tbl_model.specs.Effects.{Effect, answered}
use Rattle.tbl_model.specs.Subjects.{by_table, if_table}
use Rattle.tbl_model.specs.declared.telemetry.Named.{Named}
use Rattle.cmd_packets.specs.Views.{command_of, answer_of}
use Rattle.cmd_packets.specs.declared.commands.Ground.{Ground}
use Rattle.cmd_packets.specs.declared.commands.CmdFault.{CmdFault}
use Rattle.tbl_kinds.specs.declared.entry.Answer.{Answer}
use Rattle.tbl_kinds.specs.declared.request.Request.{Request}
use Rattle.tbl_kinds.specs.declared.status.TheConstants.Status.{ERR_NO_SUCH_TABLE}
use Rattle.tbl_kinds.specs.declared.request.Request.TheVariants as ask

-- what a packet was read as
abbrev pub read_of : Result Ground CmdFault → Result GroundCommand Answer
read_of (Ok command) = Ok (command_of command)
read_of (Err fault) = Err (answer_of fault)

-- the command that calls the store
abbrev pub asks_delete : model.ReadCommand → Bool
asks_delete (Some (Ok (delete_cds table))) = true
asks_delete _ = false

-- the handle of a call that only the owner of its table may make
abbrev pub owners_handle : Request → Option ℕ
owners_handle (ask.LoadImage handle image) = Some handle
owners_handle (ask.LoadFile handle name) = Some handle
owners_handle (ask.Update handle) = Some handle
owners_handle (ask.Validate handle) = Some handle
owners_handle (ask.Manage handle) = Some handle
owners_handle (ask.DumpToBuffer handle) = Some handle
owners_handle (ask.Edit handle offset bytes) = Some handle
owners_handle (ask.Notify handle msg code parameter) = Some handle
owners_handle _ = None

-- a request that can make an image of the table active
abbrev pub activates : Request → Bool
activates (ask.LoadImage handle image) = true
activates (ask.LoadFile handle name) = true
activates (ask.Update handle) = true
activates (ask.Manage handle) = true
activates _ = false

-- a request that boots the Critical Data Store, or calls it
abbrev pub asks_store : Request → model.ReadCommand → Bool
asks_store (ask.Reset kind) command = true
asks_store (ask.Command bytes) command = asks_delete command
asks_store (ask.Register name size flags validator) command = true
asks_store (ask.CdsRegister name size) command = true
asks_store (ask.CdsCopy slot image) command = true
asks_store (ask.CdsRestore slot) command = true
asks_store (ask.CdsDelete slot) command = true
asks_store _ command = false

-- ---- the tables that commands name

-- this is the table of the name: a command about it has its effect on the table of that row, and reports the table
abbrev pub LeadsTo : Tables → List ℕ → Named → Type 0
LeadsTo tables name table = (s : State) (effect : ℕ → Table → Effect) → s.tables ≡ tables
    → if_table s name effect ≡ record (by_table s ERR_NO_SUCH_TABLE (table_at tables table.row) (effect table.row)) { table = Some table }

-- there is no table of the name
abbrev pub IsMissing : Tables → List ℕ → Type 0
IsMissing tables name = (s : State) (effect : ℕ → Table → Effect) → s.tables ≡ tables → if_table s name effect ≡ answered s ERR_NO_SUCH_TABLE 0
