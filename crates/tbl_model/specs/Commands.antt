-- What each ground command does.
use Rattle.std.specs.Prelude.{ℕ, List, Bool, true, false, Option, Some, None, Result, Ok, Err}
use Rattle.tbl_model.specs.State.{State}
use Rattle.tbl_model.specs.Effects.{Effect, answered}
use Rattle.tbl_model.specs.GroundLoads.{load_effect}
use Rattle.tbl_model.specs.Validations.{validate_effect}
use Rattle.tbl_model.specs.Activations.{activate_command_effect, abort_effect}
use Rattle.tbl_model.specs.Dumps.{dump_effect, dump_registry_effect, housekeeping_effect}
use Rattle.tbl_model.specs.Sharing.{send_registry_effect}
use Rattle.tbl_model.specs.AppBlocks.{delete_cds_effect}
use Rattle.tbl_kinds.specs.GroundCommands.{GroundCommand, housekeeping, noop, reset_counters, load, dump, validate, activate, dump_registry, send_registry, delete_cds, abort, code_of, command_in}
use Rattle.tbl_kinds.specs.declared.entry.Answer.{Answer}
use Rattle.tbl_kinds.specs.declared.note.BankNote.{BankNote}
use Rattle.tbl_kinds.specs.declared.request.Request.{Request}
use Rattle.tbl_kinds.specs.declared.request.Request.TheVariants as ask
use Rattle.tbl_kinds.specs.declared.status.TheConstants.Status.{SUCCESS}

-- ---- what a packet asks for

-- what the packet of a command reads as, none of a request that is no command
abbrev pub ReadCommand : Type 0
ReadCommand = Option (Result GroundCommand Answer)

abbrev pub read_command_in : Request → ReadCommand
read_command_in (ask.Command bytes) = Some (command_in bytes.list)
read_command_in _ = None

abbrev pub asks_housekeeping : ReadCommand → Bool
asks_housekeeping (Some (Ok housekeeping)) = true
asks_housekeeping _ = false

abbrev pub asks_reset_counters : ReadCommand → Bool
asks_reset_counters (Some (Ok reset_counters)) = true
asks_reset_counters _ = false

abbrev pub asks_validate : ReadCommand → Bool
asks_validate (Some (Ok (validate select table))) = true
asks_validate _ = false

-- the file that a LOAD names
abbrev pub file_of_load : ReadCommand → Option (List ℕ)
file_of_load (Some (Ok (load file))) = Some file
file_of_load _ = None

-- the function code that event 1 tells
abbrev pub command_code : ReadCommand → ℕ
command_code (Some (Ok command)) = code_of command
command_code _ = 0

-- ---- what it gets

-- DELETE_CDS alone calls the store, which the note tells of
abbrev pub effect_by : State → Result GroundCommand Answer → BankNote → Effect
effect_by s (Err answer) note = answered s answer.status answer.detail
effect_by s (Ok housekeeping) note = housekeeping_effect s
effect_by s (Ok noop) note = answered s SUCCESS 0
effect_by s (Ok reset_counters) note = answered s SUCCESS 0
effect_by s (Ok (load file)) note = load_effect s file
effect_by s (Ok (dump select table file)) note = dump_effect s select table file
effect_by s (Ok (validate select table)) note = validate_effect s select table
effect_by s (Ok (activate table)) note = activate_command_effect s table
effect_by s (Ok (dump_registry file)) note = dump_registry_effect s file
effect_by s (Ok (send_registry table)) note = send_registry_effect s table
effect_by s (Ok (delete_cds table)) note = delete_cds_effect s table note
effect_by s (Ok (abort table)) note = abort_effect s table

abbrev pub command_effect : State → List ℕ → BankNote → Effect
command_effect s bytes note = effect_by s (command_in bytes) note
