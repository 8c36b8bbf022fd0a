use Rattle.std.proofs.Common.{refl, sym}
use Rattle.tbl_registry.proofs.Owners.{found_first, none_first}
use Rattle.tbl_registry.proofs.row.info.before_dot.Goals as goal

pub returns-in-Some-clause-first : goal.returns-in-Some-clause-first
returns-in-Some-clause-first c = found_first _ c.args.name.now c.in-Some.dot (sym c.in-Some.ensures.first)

pub returns-in-None-clause-first : goal.returns-in-None-clause-first
returns-in-None-clause-first c = none_first _ c.args.name.now refl (sym c.in-None.ensures.first)
