use Rattle.cfe_headers.proofs.PacketLaws.{only}
use Rattle.cfe_headers.proofs.laws.what_is_read_is_a_command_packet.Goals as goal

pub returns : goal.returns
returns c = only
