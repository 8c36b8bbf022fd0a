-- What stands before the body of a telemetry packet.
use Rattle.std.specs.Prelude.{ℕ, List, ◌++◌}
use Rattle.tbl_kinds.specs.Numbers.{two, four}
use Rattle.tbl_kinds.specs.Packets.{primary_header}
use Rattle.tbl_kinds.specs.declared.telemetry.TlmHead.{TlmHead}

-- the primary header of a packet of so many bytes in all, and the time
abbrev pub telemetry_front : ℕ → TlmHead → ℕ → List ℕ
telemetry_front id head len = primary_header id head.count len ++ four head.seconds ++ two head.sub
