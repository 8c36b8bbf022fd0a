use Rattle.tbl_registry.proofs.Start.{kept_start, seen_start}
use Rattle.tbl_registry.proofs.tables.Tables.make.Goals as goal

pub invariant_of-result : goal.invariant_of-result
invariant_of-result c = kept_start _ _ _ c.in_ok-free_rows.ensures c.in_ok-make.ensures c.none.ensures

pub returns : goal.returns
returns c = seen_start _ _ c.in_ok-free_rows.ensures c.in_ok-make.ensures
