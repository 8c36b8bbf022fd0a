-- The flaws of packets, as readers name them.
use Rattle.tbl_kinds.specs.Packets.{PacketFlaw, short, bad_length, bad_check}
use Rattle.cfe_headers.specs.declared.packets.PacketFault.{PacketFault}
use Rattle.cfe_headers.specs.declared.packets.PacketFault.TheVariants.{Short, BadLength, BadCheck}

-- the flaw that a fault names
abbrev pub flaw_of : PacketFault → PacketFlaw
flaw_of Short = short
flaw_of BadLength = bad_length
flaw_of BadCheck = bad_check
