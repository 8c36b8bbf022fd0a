use Rattle.std.proofs.Common.{sym}
use Rattle.tbl_registry.proofs.Changes.{FoundRow}
use Rattle.tbl_registry.proofs.Ends.{removed_sound, removed_seen}
use Rattle.tbl_registry.proofs.Counted.{is_counted, removed_kept}
use Rattle.tbl_registry.proofs.tables.Tables.remove.Goals as goal

pub leave-requires : goal.leave-requires
leave-requires c =
    let row : FoundRow c.self.inside.rows.items c.self.inside.handles c.args.row c.in-Some.table.now = record { there = rw (← c.deref.ensures.value) (sym c.in-Some.ensures); sound = c.self.invariant.sound } in
    is_counted row c.self.invariant.counted

pub invariant_of-self : goal.invariant_of-self
invariant_of-self c =
    let row : FoundRow c.self.inside.rows.items c.self.inside.handles c.args.row c.in-Some.table.now = record { there = rw (← c.deref.ensures.value) (sym c.in-Some.ensures); sound = c.self.invariant.sound } in
    rw (c.orphan.ensures, c.leave.ensures) (removed_kept row c.self.invariant.counted (removed_sound row))

pub returns : goal.returns
returns c =
    let row : FoundRow c.self.inside.rows.items c.self.inside.handles c.args.row c.in-Some.table.now = record { there = rw (← c.deref.ensures.value) (sym c.in-Some.ensures); sound = c.self.invariant.sound } in
    rw (← c.self.view_is, c.orphan.ensures) (removed_seen row)
