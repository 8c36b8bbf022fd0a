use Rattle.std.proofs.Common.{sym, ◌∙◌}
use Rattle.tbl_registry.proofs.Changes.{stands, seen_there}
use Rattle.tbl_registry.proofs.NewImages.{activate_sound, activate_seen, loaded_is}
use Rattle.tbl_registry.proofs.Counted.{is_counted, room_again, recounted}
use Rattle.tbl_registry.proofs.tables.Tables.activate.Goals as goal

pub leave-requires : goal.leave-requires
leave-requires c = is_counted (stands c.args.row c.self.invariant.sound c.index_mut.ensures.value c.in-Some.is (rw (← c.self.view_is) at c.requires.load.table)) c.self.invariant.counted

pub enter-requires : goal.enter-requires
enter-requires c = rw c.leave.ensures (room_again (stands c.args.row c.self.invariant.sound c.index_mut.ensures.value c.in-Some.is (rw (← c.self.view_is) at c.requires.load.table)) c.self.invariant.counted)

pub invariant_of-self : goal.invariant_of-self
invariant_of-self c =
    let row = stands c.args.row c.self.invariant.sound c.index_mut.ensures.value c.in-Some.is (rw (← c.self.view_is) at c.requires.load.table) in
    let free = (rw (← c.self.view_is) at (c.requires.unlocked c.in-Some.table (seen_there row _ c.self.view_is))) in
    let image = loaded_is row free _ (sym c.in-Some-end_load.is ∙ c.end_load.ensures.image) in
    rw (c.enter.ensures, c.leave.ensures, c.take_image.ensures.table, c.take_image.ensures.handles, c.end_load.ensures.closed, image) (recounted row c.self.invariant.counted _ (activate_sound row free c.end_load.ensures.table))

pub returns-clause-tables : goal.returns-clause-tables
returns-clause-tables c =
    let row = stands c.args.row c.self.invariant.sound c.index_mut.ensures.value c.in-Some.is (rw (← c.self.view_is) at c.requires.load.table) in
    let free = (rw (← c.self.view_is) at (c.requires.unlocked c.in-Some.table (seen_there row _ c.self.view_is))) in
    let image = loaded_is row free _ (sym c.in-Some-end_load.is ∙ c.end_load.ensures.image) in
    rw (← c.self.view_is, c.take_image.ensures.table, c.take_image.ensures.handles, c.end_load.ensures.closed, image) (activate_seen row free)
