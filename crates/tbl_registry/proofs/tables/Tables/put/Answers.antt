use Rattle.std.proofs.Common.{refl}
use Rattle.tbl_registry.proofs.Changes.{stands, seen_there}
use Rattle.tbl_registry.proofs.NewImages.{put_sound, put_seen}
use Rattle.tbl_registry.proofs.Counted.{kept}
use Rattle.tbl_registry.proofs.tables.Tables.put.Goals as goal

pub invariant_of-self : goal.invariant_of-self
invariant_of-self c =
    let row = stands c.args.row c.self.invariant.sound c.index_mut.ensures.value c.in-Some.is (rw (← c.self.view_is) at c.requires.takes.table) in
    rw (c.take_image.ensures.table, c.take_image.ensures.handles) (kept row c.self.invariant.counted _ (put_sound row (rw (← c.self.view_is) at (c.requires.unlocked c.in-Some.table (seen_there row _ c.self.view_is))) c.args.image c.take_image.ensures.well (c.requires.takes.no_load c.in-Some.table (seen_there row _ c.self.view_is))) refl refl)

pub returns-clause-tables : goal.returns-clause-tables
returns-clause-tables c =
    let row = stands c.args.row c.self.invariant.sound c.index_mut.ensures.value c.in-Some.is (rw (← c.self.view_is) at c.requires.takes.table) in
    rw (← c.self.view_is, c.take_image.ensures.table, c.take_image.ensures.handles) (put_seen row (rw (← c.self.view_is) at (c.requires.unlocked c.in-Some.table (seen_there row _ c.self.view_is))) c.args.image)
