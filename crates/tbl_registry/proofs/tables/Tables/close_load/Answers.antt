use Rattle.std.proofs.Common.{refl}
use Rattle.tbl_registry.proofs.Changes.{stands, row_seen, closed_sound}
use Rattle.tbl_registry.proofs.Counted.{is_counted, room_again, recounted}
use Rattle.tbl_registry.proofs.tables.Tables.close_load.Goals as goal

pub leave-requires : goal.leave-requires
leave-requires c = is_counted (stands c.args.row c.self.invariant.sound c.index_mut.ensures.value c.in-Some.is (rw (← c.self.view_is) at c.requires.table)) c.self.invariant.counted

pub enter-requires : goal.enter-requires
enter-requires c = rw c.leave.ensures (room_again (stands c.args.row c.self.invariant.sound c.index_mut.ensures.value c.in-Some.is (rw (← c.self.view_is) at c.requires.table)) c.self.invariant.counted)

pub invariant_of-self : goal.invariant_of-self
invariant_of-self c =
    let row = stands c.args.row c.self.invariant.sound c.index_mut.ensures.value c.in-Some.is (rw (← c.self.view_is) at c.requires.table) in
    rw (c.enter.ensures, c.leave.ensures, c.end_load.ensures.closed) (recounted row c.self.invariant.counted _ (closed_sound row))

pub returns : goal.returns
returns c = let row = stands c.args.row c.self.invariant.sound c.index_mut.ensures.value c.in-Some.is (rw (← c.self.view_is) at c.requires.table) in rw (← c.self.view_is, c.end_load.ensures.closed, row.there) (row_seen row _ refl)
