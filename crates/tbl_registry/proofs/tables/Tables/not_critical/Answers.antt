use Rattle.std.proofs.Common.{refl}
use Rattle.tbl_registry.proofs.Changes.{stands, uncritical_sound, uncritical_uses, row_seen}
use Rattle.tbl_registry.proofs.Counted.{kept}
use Rattle.tbl_registry.proofs.tables.Tables.not_critical.Goals as goal

pub invariant_of-self : goal.invariant_of-self
invariant_of-self c =
    let row = stands c.args.row c.self.invariant.sound c.index_mut.ensures.value c.in-Some.is (rw (← c.self.view_is) at c.requires) in
    rw c.not_critical.ensures (kept row c.self.invariant.counted _ (uncritical_sound row) refl (uncritical_uses row))

pub returns : goal.returns
returns c = let row = stands c.args.row c.self.invariant.sound c.index_mut.ensures.value c.in-Some.is (rw (← c.self.view_is) at c.requires) in rw (← c.self.view_is, c.not_critical.ensures, row.there) (row_seen row _ refl)
