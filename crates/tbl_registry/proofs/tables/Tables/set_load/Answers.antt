use Rattle.std.proofs.Common.{refl}
use Rattle.tbl_registry.proofs.Changes.{stands, row_seen, seen_there, set_load_sound}
use Rattle.tbl_registry.proofs.Counted.{is_counted, room_again, recounted}
use Rattle.tbl_registry.proofs.tables.Tables.set_load.Goals as goal

pub leave-requires : goal.leave-requires
leave-requires c = is_counted (stands c.args.row c.self.invariant.sound c.index_mut.ensures.value c.in-Some.is (rw (← c.self.view_is) at c.requires.table)) c.self.invariant.counted

pub enter-requires : goal.enter-requires
enter-requires c = rw c.leave.ensures (room_again (stands c.args.row c.self.invariant.sound c.index_mut.ensures.value c.in-Some.is (rw (← c.self.view_is) at c.requires.table)) c.self.invariant.counted)

pub invariant_of-self : goal.invariant_of-self
invariant_of-self c =
    let row = stands c.args.row c.self.invariant.sound c.index_mut.ensures.value c.in-Some.is (rw (← c.self.view_is) at c.requires.table) in
    rw (c.enter.ensures, c.leave.ensures, c.set_load.ensures.load) (recounted row c.self.invariant.counted _ (set_load_sound row c.set_load.ensures.table (rw (← c.self.view_is) at (c.requires.free c.in-Some.table (seen_there row _ c.self.view_is))) c.args.image))

pub returns : goal.returns
returns c = let row = stands c.args.row c.self.invariant.sound c.index_mut.ensures.value c.in-Some.is (rw (← c.self.view_is) at c.requires.table) in rw (← c.self.view_is, c.set_load.ensures.load, row.there) (row_seen row _ refl)
