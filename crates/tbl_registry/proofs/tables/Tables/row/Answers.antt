use Rattle.std.proofs.Common.{rules}
use Rattle.tbl_registry.proofs.tables.Tables.row.Goals as goal

pub returns : goal.returns
returns c = record { view = search rules; table = search rules; named = rw (← c.self.view_is) (c.self.invariant.sound.named c.args.row) }
