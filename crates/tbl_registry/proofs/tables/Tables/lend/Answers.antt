use Rattle.std.proofs.Common.{◌≡◌, ℕ, List, true, rules, Some, ap, sym, ◌∙◌}
use Rattle.tbl_registry.specs.Pins.{Leading}
use Rattle.tbl_registry.specs.declared.pin.Pin.{Pin}
use Rattle.tbl_registry.proofs.Steps.{image_there, lends, pins_one}
use Rattle.tbl_registry.proofs.tables.Tables.lend.Goals as goal

pub unreachable-requires : goal.unreachable-requires
unreachable-requires c =
    image_there c.self.inside.rows.items c.self.inside.handles c.args.handle c.in-Some.view c.in-Some.field-0-1 c.in-Some.table.now (rw (← c.deref.ensures.value) c.in-Some.ensures.leads) c.self.invariant.sound (search rules) c.in_default-whole.ensures.table (sym c.in_default-whole.ensures.image)

pub returns : goal.returns
returns c =
    let leads : Leading c.self.inside.rows.items c.self.inside.handles c.args.handle c.in-Some.view c.in-Some.field-0-1 c.in-Some.table.now = rw (← c.deref.ensures.value) c.in-Some.ensures.leads in
    let pinned : c.in-Some.view.pinned ≡ true = search rules in record {
      lent = rw (← c.self.view_is)
          (ap (λ (pin : Pin). Some pin) c.of.ensures
          ∙ ap (λ (name : List ℕ). let pin : Pin = record { bytes = c.in_ok-share.field-0; handle = c.args.handle; place = c.args.place; name = name } in Some pin) (c.copy.ensures ∙ c.name.ensures)
          ∙ ap (λ (bytes : List ℕ). let pin : Pin = record { bytes = bytes; handle = c.args.handle; place = c.args.place; name = c.in-Some.table.now.name } in Some pin) c.in_ok-share.ensures
          ∙ sym (lends c.self.inside.rows.items c.self.inside.handles c.args.handle c.in-Some.view c.in-Some.field-0-1 c.in-Some.table.now leads c.self.invariant.sound c.args.place c.in-Some-whole.pinned.now pinned (sym c.in-Some-whole.ensures.image)));
      none = rw (← c.self.view_is) (sym (pins_one c.self.inside.rows.items c.self.inside.handles c.args.handle c.in-Some.view c.in-Some.field-0-1 c.in-Some.table.now leads c.self.invariant.sound pinned));
      within = search rules;
    }
