use Rattle.std.proofs.Common.{refl}
use Rattle.tbl_model.specs.State.{Load}
use Rattle.tbl_registry.proofs.Changes.{stands, same_open, checked_sound, checked_uses, row_seen}
use Rattle.tbl_registry.proofs.Counted.{kept}
use Rattle.tbl_registry.proofs.tables.Tables.set_checked.Goals as goal

pub invariant_of-self : goal.invariant_of-self
invariant_of-self c =
    let row = stands c.args.row c.self.invariant.sound c.index_mut.ensures.value c.in-Some.is (rw (← c.self.view_is) at c.requires.table) in
    rw c.set_checked.ensures (kept row c.self.invariant.counted _ (checked_sound row c.args.checked) (same_open (λ (load : Load). record load { checked = c.args.checked }) c.in-Some.table.load) (checked_uses row c.args.checked))

pub returns : goal.returns
returns c = let row = stands c.args.row c.self.invariant.sound c.index_mut.ensures.value c.in-Some.is (rw (← c.self.view_is) at c.requires.table) in rw (← c.self.view_is, c.set_checked.ensures, row.there) (row_seen row _ refl)
