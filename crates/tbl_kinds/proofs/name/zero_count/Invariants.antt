use Rattle.std.proofs.Common.{◌≡◌, count_by, take}
use Rattle.tbl_kinds.specs.Names.{is_zero}
use Rattle.tbl_kinds.proofs.name.zero_count.Given as goal

abbrev pub invariant-loop-byte : goal.invariant-loop-byte
invariant-loop-byte l = l.count ≡ count_by is_zero (take l.byte-index l.field)
