use Rattle.cfe_headers.proofs.PacketLaws.{written}
use Rattle.cfe_headers.proofs.laws.written_commands_are_command_packets.Goals as goal

pub returns : goal.returns
returns c = written
