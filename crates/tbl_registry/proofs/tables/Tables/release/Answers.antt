use Rattle.std.proofs.Common.{◌≡◌, Some, None, refl, rules, arith, slice_index_or}
use Rattle.std.proofs.lemmas.Grind.{common_steps}
use Rattle.tbl_registry.specs.Seen.{tables_of}
use Rattle.tbl_registry.proofs.Places.{at_place-read}
use Rattle.tbl_registry.proofs.Steps.{leads_nowhere, released_sound, released_seen}
use Rattle.tbl_registry.proofs.Changes.{FoundRow}
use Rattle.tbl_registry.proofs.Counted.{kept}
use Rattle.tbl_registry.proofs.tables.Tables.release.Goals as goal

pub returns : goal.returns
returns c =
    let first : slice_index_or c.self.inside.rows.items c.in-Some.row None ≡ Some c.in-Some.table.now = rw (← c.deref.ensures.value) c.in-Some.ensures.leads.table in
    let there : slice_index_or c.self.inside.rows.items c.in-Some.row None ≡ Some c.in-Some-index_mut.table = at_place-read c.self.inside.rows.items c.in-Some.row c.index_mut.result.now c.in-Some-index_mut.table c.index_mut.ensures.value c.in-Some-index_mut.is (rw first refl) in
    record { status = grind (arith, common_steps); detail = search rules; tables = rw (← c.self.view_is, c.drop_before.ensures, c.unpin.ensures) (released_seen c.self.inside.rows.items c.self.inside.handles c.args.handle c.in-Some.view c.in-Some.row c.in-Some-index_mut.table record { place = c.in-Some.ensures.leads.place; row_is = c.in-Some.ensures.leads.row_is; table = there } c.self.invariant.sound (search rules)) }

pub invariant_of-self : goal.invariant_of-self
invariant_of-self c =
    let first : slice_index_or c.self.inside.rows.items c.in-Some.row None ≡ Some c.in-Some.table.now = rw (← c.deref.ensures.value) c.in-Some.ensures.leads.table in
    let there : slice_index_or c.self.inside.rows.items c.in-Some.row None ≡ Some c.in-Some-index_mut.table = at_place-read c.self.inside.rows.items c.in-Some.row c.index_mut.result.now c.in-Some-index_mut.table c.index_mut.ensures.value c.in-Some-index_mut.is (rw first refl) in
    let row : FoundRow c.self.inside.rows.items c.self.inside.handles c.in-Some.row c.in-Some-index_mut.table = record { there = there; sound = c.self.invariant.sound } in
    rw (c.drop_before.ensures, c.unpin.ensures) (kept row c.self.invariant.counted _ (released_sound c.self.inside.rows.items c.self.inside.handles c.args.handle c.in-Some.view c.in-Some.row c.in-Some-index_mut.table record { place = c.in-Some.ensures.leads.place; row_is = c.in-Some.ensures.leads.row_is; table = there } c.self.invariant.sound) refl refl)

pub unreachable-requires : goal.unreachable-requires
unreachable-requires c = leads_nowhere (tables_of c.deref.result.now c.self.inside.handles) _ c.args.handle (rw c.deref.ensures.value c.self.view_is) c.in_default.ensures.none c.requires
