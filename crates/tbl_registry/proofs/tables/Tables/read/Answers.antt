use Rattle.std.proofs.Common.{rules, arith, sym}
use Rattle.tbl_registry.specs.Seen.{tables_of}
use Rattle.tbl_registry.proofs.Steps.{leads_nowhere, image_there, read_lends}
use Rattle.tbl_registry.proofs.tables.Tables.read.Goals as goal

pub unreachable-requires-in_default-whole : goal.unreachable-requires-in_default-whole
unreachable-requires-in_default-whole c =
    image_there c.self.inside.rows.items c.self.inside.handles c.args.handle c.in-Some.view c.in-Some.field-0-1 c.in-Some.table.now (rw (← c.deref.ensures.value) c.in-Some.ensures.leads) c.self.invariant.sound (search rules) c.in_default-whole.ensures.table (sym c.in_default-whole.ensures.image)

pub returns : goal.returns
returns c = let room = rw c.bytes-image.ensures at c.if-to-image.false in record {
  ok = rw (← c.self.view_is, c.bytes-image.ensures) (read_lends c.self.inside.rows.items c.self.inside.handles c.args.handle c.in-Some.view c.in-Some.field-0-1 c.in-Some.table.now (rw (← c.deref.ensures.value) c.in-Some.ensures.leads) c.self.invariant.sound c.args.offset c.args.len c.in-Some-whole.image.now (search rules) (sym c.in-Some-whole.ensures.image) c.in-Some-whole.ensures.size room);
  err = search rules;
  length = search rules;
  within = omega (arith, c.in-Some-whole.ensures.table.within, c.in-Some-whole.ensures.size, room);
}

pub unreachable-requires : goal.unreachable-requires
unreachable-requires c = leads_nowhere (tables_of c.deref.result.now c.self.inside.handles) _ c.args.handle (rw c.deref.ensures.value c.self.view_is) c.in_default.ensures.none c.requires
