use Rattle.std.proofs.Common.{rules, sym}
use Rattle.tbl_registry.proofs.Steps.{whole_lends}
use Rattle.tbl_registry.proofs.tables.Tables.read_whole.Goals as goal

pub returns : goal.returns
returns c = rw (← c.self.view_is)
    (whole_lends c.self.inside.rows.items c.self.inside.handles c.args.handle c.in-Some.view c.in-Some.field-0-1 c.in-Some.table.now (rw (← c.deref.ensures.value) c.in-Some.ensures.leads) c.self.invariant.sound c.args.offset c.args.len c.in_ok-image.image.now (search rules) (sym c.in_ok-image.ensures.image) c.in_ok-image.ensures.size (search rules) (search rules))
