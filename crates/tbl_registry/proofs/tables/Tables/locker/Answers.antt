use Rattle.std.proofs.Common.{◌≡◌, sym, Some, None, slice_index_or}
use Rattle.tbl_registry.proofs.Pins.{locker_is, pins_of}
use Rattle.tbl_registry.proofs.tables.Tables.locker.Goals as goal

pub returns : goal.returns
returns c =
    let there : slice_index_or c.self.inside.rows.items c.args.row None ≡ Some c.in_ok-table.table.now = rw (← c.deref.ensures.value) (sym c.in_ok-table.ensures) in
    let is = locker_is c.self.inside.rows.items c.args.row c.in_ok-table.table.now there c.self.inside.handles (pins_of c.self.inside.rows.items c.self.inside.handles c.args.row c.in_ok-table.table.now there c.self.invariant.sound.leads) in
    rw (← c.self.view_is, there, is, ← c.is_double.ensures) record { least = c.first_in_way.ensures }
