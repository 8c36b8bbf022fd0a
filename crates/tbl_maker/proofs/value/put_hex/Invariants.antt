use Rattle.std.proofs.Common.{◌≡◌, ◌++◌, take}
use Rattle.std.specs.List.{flat_map}
use Rattle.tbl_maker.specs.Values.{hex_pair}
use Rattle.tbl_maker.proofs.value.put_hex.Given as goal

-- the digits of the bytes so far were appended
abbrev pub invariant-loop-byte : goal.invariant-loop-byte
invariant-loop-byte l = l.out.list ≡ l.fn.out.list ++ flat_map hex_pair (take l.byte-index l.bytes)
