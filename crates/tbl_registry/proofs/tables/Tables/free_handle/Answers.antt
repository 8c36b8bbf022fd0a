use Rattle.std.proofs.Common.{refl, sym, ◌∙◌, rules}
use Rattle.tbl_registry.proofs.Changes.{stands}
use Rattle.tbl_registry.proofs.Steps.{its_table, not_given, freed_sound, drop_before_sound, alone_seen, taken_back_seen}
use Rattle.tbl_registry.proofs.Counted.{kept}
use Rattle.tbl_registry.proofs.tables.Tables.free_handle.Goals as goal

pub unreachable-requires : goal.unreachable-requires
unreachable-requires c = not_given c.self.inside.rows.items c.self.inside.handles c.self.invariant.sound c.args.handle (sym c.view.ensures.handle ∙ c.in_default.is) (rw (← c.self.view_is) at c.requires)

pub unreachable-requires-in_default-index_mut : goal.unreachable-requires-in_default-index_mut
unreachable-requires-in_default-index_mut c =
    let some = its_table c.self.inside.rows.items c.self.inside.handles c.self.invariant.sound c.args.handle c.in-Some.view c.in-Some-row.row (sym c.view.ensures.handle ∙ c.in-Some.is) c.in-Some-row.is in
    search rules

pub invariant_of-self : goal.invariant_of-self
invariant_of-self c = rw c.drop_handle.ensures record { sound = freed_sound c.self.inside.rows.items c.self.inside.handles c.self.invariant.sound c.args.handle; counted = c.self.invariant.counted }

pub returns-in_default-row : goal.returns-in_default-row
returns-in_default-row c = rw (← c.self.view_is, c.drop_handle.ensures) (alone_seen c.self.inside.rows.items c.self.inside.handles c.self.invariant.sound c.args.handle c.in-Some.view (sym c.view.ensures.handle ∙ c.in-Some.is) c.in_default-row.is)

pub invariant_of-self-2 : goal.invariant_of-self-2
invariant_of-self-2 c =
    let row = stands c.in-Some-row.row (freed_sound c.self.inside.rows.items c.self.inside.handles c.self.invariant.sound c.args.handle) c.index_mut.ensures.value c.in-Some-index_mut.is (its_table c.self.inside.rows.items c.self.inside.handles c.self.invariant.sound c.args.handle c.in-Some.view c.in-Some-row.row (sym c.view.ensures.handle ∙ c.in-Some.is) c.in-Some-row.is) in
    rw (c.drop_before.ensures, c.drop_handle.ensures) (kept row c.self.invariant.counted _ (drop_before_sound row) refl refl)

pub returns : goal.returns
returns c =
    let row = stands c.in-Some-row.row (freed_sound c.self.inside.rows.items c.self.inside.handles c.self.invariant.sound c.args.handle) c.index_mut.ensures.value c.in-Some-index_mut.is (its_table c.self.inside.rows.items c.self.inside.handles c.self.invariant.sound c.args.handle c.in-Some.view c.in-Some-row.row (sym c.view.ensures.handle ∙ c.in-Some.is) c.in-Some-row.is) in
    rw (← c.self.view_is, c.drop_before.ensures, c.drop_handle.ensures) (taken_back_seen c.self.inside.rows.items c.self.inside.handles c.self.invariant.sound c.args.handle c.in-Some.view c.in-Some-row.row c.in-Some-index_mut.table (sym c.view.ensures.handle ∙ c.in-Some.is) c.in-Some-row.is row.there)
