use Rattle.std.proofs.Common.{refl}
use Rattle.tbl_registry.proofs.Changes.{stands, filled_sound, filled_uses, row_seen}
use Rattle.tbl_registry.proofs.Counted.{kept}
use Rattle.tbl_registry.proofs.tables.Tables.fill_dump.Goals as goal

pub invariant_of-self : goal.invariant_of-self
invariant_of-self c =
    let row = stands c.args.row c.self.invariant.sound c.index_mut.ensures.value c.in-Some.is (rw (← c.self.view_is) at c.requires) in
    rw c.fill_dump.ensures (kept row c.self.invariant.counted _ (filled_sound row) refl (filled_uses row))

pub returns : goal.returns
returns c = let row = stands c.args.row c.self.invariant.sound c.index_mut.ensures.value c.in-Some.is (rw (← c.self.view_is) at c.requires) in rw (← c.self.view_is, c.fill_dump.ensures, row.there) (row_seen row _ refl)
