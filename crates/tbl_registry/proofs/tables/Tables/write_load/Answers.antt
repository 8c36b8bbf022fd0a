use Rattle.std.proofs.Common.{ℕ, List}
use Rattle.tbl_kinds.specs.Numbers.{patched}
use Rattle.tbl_model.specs.TableSteps.{base}
use Rattle.tbl_registry.proofs.Changes.{stands, seen_there, write_open, write_uses, write_sound, write_seen}
use Rattle.tbl_registry.proofs.Counted.{kept}
use Rattle.tbl_registry.proofs.tables.Tables.write_load.Goals as goal

pub invariant_of-self : goal.invariant_of-self
invariant_of-self c =
    let row = stands c.args.row c.self.invariant.sound c.index_mut.ensures.value c.in-Some.is (rw (← c.self.view_is) at c.requires.load.table) in
    let loaded = c.requires.load.load c.in-Some.table (seen_there row _ c.self.view_is) in
    let image : List ℕ = patched (base c.in-Some.table) c.args.offset c.args.bytes.now in
    rw c.write_load.ensures (kept row c.self.invariant.counted _ (write_sound row loaded c.write_load.result image) (write_open row loaded c.write_load.result image) (write_uses row loaded c.write_load.result image))

pub returns : goal.returns
returns c = rw (← c.self.view_is, c.write_load.ensures) (write_seen (stands c.args.row c.self.invariant.sound c.index_mut.ensures.value c.in-Some.is (rw (← c.self.view_is) at c.requires.load.table)) c.write_load.result c.args.offset c.args.bytes.now)
