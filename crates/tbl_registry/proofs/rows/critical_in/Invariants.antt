use Rattle.std.proofs.Common.{◌≡◌, count_by, take}
use Rattle.tbl_model.specs.Tables.{is_critical_in}
use Rattle.tbl_registry.proofs.rows.critical_in.Given as goal

abbrev pub invariant-loop-row : goal.invariant-loop-row
invariant-loop-row l = l.count ≡ count_by is_critical_in (take l.row-index l.rows)
