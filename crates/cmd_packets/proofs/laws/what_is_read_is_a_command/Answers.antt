use Rattle.cmd_packets.proofs.SpelledCommands as laws
use Rattle.cmd_packets.proofs.laws.what_is_read_is_a_command.Goals as goal

pub returns : goal.returns
returns c = laws.only
