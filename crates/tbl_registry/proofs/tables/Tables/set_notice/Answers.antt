use Rattle.std.proofs.Common.{refl}
use Rattle.tbl_registry.proofs.Changes.{stands, quiet_sound, row_seen}
use Rattle.tbl_registry.proofs.Counted.{kept}
use Rattle.tbl_registry.proofs.tables.Tables.set_notice.Goals as goal

pub invariant_of-self : goal.invariant_of-self
invariant_of-self c =
    let row = stands c.args.row c.self.invariant.sound c.index_mut.ensures.value c.in-Some.is (rw (← c.self.view_is) at c.requires) in
    rw c.set_notice.ensures (kept row c.self.invariant.counted _ (quiet_sound row _ refl refl refl (λ none. none) refl) refl refl)

pub returns : goal.returns
returns c = let row = stands c.args.row c.self.invariant.sound c.index_mut.ensures.value c.in-Some.is (rw (← c.self.view_is) at c.requires) in rw (← c.self.view_is, c.set_notice.ensures, row.there) (row_seen row _ refl)
