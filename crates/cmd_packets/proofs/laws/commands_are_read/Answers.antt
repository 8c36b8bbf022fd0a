use Rattle.cmd_packets.proofs.ReadCommands as laws
use Rattle.cmd_packets.proofs.laws.commands_are_read.Goals as goal

pub returns : goal.returns
returns c = laws.commands_are_read
