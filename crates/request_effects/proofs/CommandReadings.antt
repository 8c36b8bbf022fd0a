-- What a reader gives is what it was read as.
use Rattle.std.proofs.Common.{◌≡◌, Result, Ok, Err, sym}
use Rattle.tbl_kinds.specs.GroundCommands.{GroundCommand}
use Rattle.tbl_kinds.specs.declared.entry.Answer.{Answer}
use Rattle.cmd_packets.specs.Views.{Gives}
use Rattle.cmd_packets.specs.declared.commands.Ground.{Ground}
use Rattle.cmd_packets.specs.declared.commands.CmdFault.{CmdFault}
use Rattle.request_effects.specs.Requests.{read_of}

pub gives_read : (result : Result Ground CmdFault) (read : Result GroundCommand Answer) → Gives result read → read_of result ≡ read
gives_read (Ok command) read gives = sym gives
gives_read (Err fault) read gives = sym gives
