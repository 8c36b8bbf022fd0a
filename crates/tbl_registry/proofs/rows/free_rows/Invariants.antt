use Rattle.std.proofs.Common.{◌≡◌, None, replicate}
use Rattle.tbl_registry.proofs.rows.free_rows.Given as goal

abbrev pub invariant-loop : goal.invariant-loop
invariant-loop l = l.rows.items ≡ replicate l.counter None
