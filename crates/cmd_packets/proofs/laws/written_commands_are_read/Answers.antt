use Rattle.cmd_packets.proofs.SpelledCommands as laws
use Rattle.cmd_packets.proofs.laws.written_commands_are_read.Goals as goal

pub returns : goal.returns
returns c = laws.written
