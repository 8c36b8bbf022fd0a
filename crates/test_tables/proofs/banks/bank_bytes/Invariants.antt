use Rattle.std.proofs.Common.{◌≡◌, length}
use Rattle.tbl_kinds.specs.Places.{bank_size}
use Rattle.test_tables.proofs.banks.bank_bytes.Given as goal

abbrev pub invariant-runs : goal.invariant-runs
invariant-runs l = length l.bytes.items ≡ bank_size
