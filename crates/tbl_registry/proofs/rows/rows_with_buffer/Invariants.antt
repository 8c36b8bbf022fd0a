use Rattle.std.proofs.Common.{◌≡◌, ◌≤◌, length, drop}
use Rattle.tbl_model.specs.Tables.{rows_from}
use Rattle.tbl_registry.specs.Seen.{padded}
use Rattle.tbl_registry.proofs.rows.rows_with_buffer.Given as goal

abbrev pub invariant-loop-row : goal.invariant-loop-row
invariant-loop-row l = (l.row ≤ length l.rows) × (l.found ≡ padded (rows_from l.row (drop l.row l.rows)))

abbrev pub decreases-loop-row : goal.decreases-loop-row
decreases-loop-row l = l.row
