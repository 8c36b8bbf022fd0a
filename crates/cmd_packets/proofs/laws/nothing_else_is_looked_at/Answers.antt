use Rattle.cmd_packets.proofs.ReadCommands as laws
use Rattle.cmd_packets.proofs.laws.nothing_else_is_looked_at.Goals as goal

pub returns-clause-packet : goal.returns-clause-packet
returns-clause-packet c = laws.same_packet

pub returns-clause-payload : goal.returns-clause-payload
returns-clause-payload c = laws.same_payload
