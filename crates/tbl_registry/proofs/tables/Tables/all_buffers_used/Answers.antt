use Rattle.std.proofs.Common.{rules, tests}
use Rattle.tbl_registry.proofs.InUse.{rows_count}
use Rattle.tbl_registry.proofs.tables.Tables.all_buffers_used.Goals as goal

pub returns-clause-all : goal.returns-clause-all
returns-clause-all c = rw (← c.self.view_is, rows_count c.self.inside.rows.items 0, ← c.self.invariant.counted.users) (search (rules, tests))

pub returns-clause-few : goal.returns-clause-few
returns-clause-few c = rw (← c.self.view_is, rows_count c.self.inside.rows.items 0) c.self.invariant.sound.few
