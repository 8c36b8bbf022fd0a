use Rattle.std.proofs.Common.{Some, None, refl}
use Rattle.tbl_kinds.proofs.FreeLaws.{none_at}
use Rattle.tbl_registry.proofs.rows.free_row.Goals as goal

pub returns-in-Some-clause-full : goal.returns-in-Some-clause-full
returns-in-Some-clause-full c = none_at c.args.rows.now (Some c.in-Some.row) _ c.in-Some.ensures.row refl

pub returns-in-None-clause-full : goal.returns-in-None-clause-full
returns-in-None-clause-full c = none_at c.args.rows.now None _ c.in-None.ensures.row refl
