use Rattle.std.proofs.Common.{rules, arith}
use Rattle.std.proofs.lemmas.Grind.{common_steps}
use Rattle.access_desc.specs.Steps.{with_pin, with_told}
use Rattle.tbl_registry.specs.Seen.{tables_of}
use Rattle.tbl_registry.proofs.Places.{changed_at-twice}
use Rattle.tbl_registry.proofs.Steps.{leads_nowhere, pinned_sound, pinned_seen}
use Rattle.tbl_registry.proofs.tables.Tables.get_address.Goals as goal

pub returns : goal.returns
returns c = record {
  status = grind (arith, common_steps);
  detail = search rules;
  tables = rw (← c.self.view_is, c.tell.ensures, c.pin.ensures, changed_at-twice with_pin (with_told c.count-count.result) c.self.inside.handles c.args.handle)
      (pinned_seen c.self.inside.rows.items c.self.inside.handles c.args.handle c.in-Some.view c.in-Some.field-0-1 c.in-Some.table.now (rw (← c.deref.ensures.value) c.in-Some.ensures.leads) c.self.invariant.sound c.count-count.result c.if-view.false c.count-count.ensures c.if-count-eq0.false);
}

pub invariant_of-self : goal.invariant_of-self
invariant_of-self c = rw (c.tell.ensures, c.pin.ensures, changed_at-twice with_pin (with_told c.count-count.result) c.self.inside.handles c.args.handle)
    record { sound = pinned_sound c.self.inside.rows.items c.self.inside.handles c.args.handle c.in-Some.view c.in-Some.field-0-1 c.in-Some.table.now (rw (← c.deref.ensures.value) c.in-Some.ensures.leads) c.self.invariant.sound c.count-count.result c.count-count.ensures c.if-count-eq0.false; counted = c.self.invariant.counted }

pub unreachable-requires : goal.unreachable-requires
unreachable-requires c = leads_nowhere (tables_of c.deref.result.now c.self.inside.handles) _ c.args.handle (rw c.deref.ensures.value c.self.view_is) c.in_default.ensures.none c.requires
