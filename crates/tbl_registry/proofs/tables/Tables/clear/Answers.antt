use Rattle.std.proofs.Common.{rules}
use Rattle.tbl_registry.proofs.Start.{kept_start}
use Rattle.tbl_registry.proofs.tables.Tables.clear.Goals as goal

pub invariant_of-self : goal.invariant_of-self
invariant_of-self c = kept_start _ c.clear.new.self _ (search rules) c.clear.ensures c.none-self-inside.ensures
