-- Commands and their faults, as the definitions speak of them.
use Rattle.std.specs.Prelude.{◌≡◌, Result, Ok, Err}
use Rattle.tbl_kinds.specs.GroundCommands as spec
use Rattle.tbl_kinds.specs.GroundCommands.{GroundCommand, flaw_detail}
use Rattle.tbl_kinds.specs.declared.entry.Answer.{Answer}
use Rattle.tbl_kinds.specs.declared.status.TheConstants.Status.{ERR_BAD_PACKET, ERR_BAD_MESSAGE_ID, ERR_BAD_CODE, ERR_BAD_LENGTH, ERR_BAD_NAME}
use Rattle.cfe_headers.specs.Faults.{flaw_of}
use Rattle.cmd_packets.specs.declared.commands.Ground.{Ground}
use Rattle.cmd_packets.specs.declared.commands.Ground.TheVariants as ask
use Rattle.cmd_packets.specs.declared.commands.CmdFault.{CmdFault}
use Rattle.cmd_packets.specs.declared.commands.CmdFault.TheVariants.{BadPacket, BadMessageId, BadCode, BadLength, BadName}

abbrev pub command_of : Ground → GroundCommand
command_of ask.Housekeeping = spec.housekeeping
command_of ask.Noop = spec.noop
command_of ask.ResetCounters = spec.reset_counters
command_of (ask.Load file) = spec.load file
command_of (ask.Dump select table file) = spec.dump select table file
command_of (ask.Validate select table) = spec.validate select table
command_of (ask.Activate table) = spec.activate table
command_of (ask.DumpRegistry file) = spec.dump_registry file
command_of (ask.SendRegistry table) = spec.send_registry table
command_of (ask.DeleteCds table) = spec.delete_cds table
command_of (ask.Abort table) = spec.abort table

-- the status and the detail that a fault is answered with
abbrev pub answer_of : CmdFault → Answer
answer_of (BadPacket fault) = record { status = ERR_BAD_PACKET; detail = flaw_detail (flaw_of fault) }
answer_of (BadMessageId id) = record { status = ERR_BAD_MESSAGE_ID; detail = id }
answer_of (BadCode code) = record { status = ERR_BAD_CODE; detail = code }
answer_of (BadLength len) = record { status = ERR_BAD_LENGTH; detail = len }
answer_of (BadName which) = record { status = ERR_BAD_NAME; detail = which }

-- a reader answered what a definition gives
abbrev pub Gives : Result Ground CmdFault → Result GroundCommand Answer → Type 0
Gives (Ok command) read = read ≡ Ok (command_of command)
Gives (Err fault) read = read ≡ Err (answer_of fault)
