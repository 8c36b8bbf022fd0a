use Rattle.cfe_headers.proofs.PacketLaws.{reads}
use Rattle.cfe_headers.proofs.laws.command_packets_are_read.Goals as goal

pub returns : goal.returns
returns c = reads
