use Rattle.std.proofs.Common.{refl, sym}
use Rattle.cds_store.proofs.Recovered.{found_there}
use Rattle.cds_store.proofs.NewIsNew.{found_is_open}
use Rattle.cds_store.proofs.recovery.find_open_block.Goals as goal

pub unreachable-requires : goal.unreachable-requires
unreachable-requires g c = found_there c.args.kind c.args.name.now c.args.store.now.slots c.in_ok-slot.slot c.in_ok-slot.ensures.slot c.in-None.ensures.slot

pub returns-clause-size : goal.returns-clause-size
returns-clause-size g c =
    found_is_open c.args.kind c.args.name.now c.in-Some.block.now.size c.in_ok-slot.slot c.args.store.now.slots c.in-Some.block.now (sym c.in_ok-slot.ensures.slot) (sym c.in-Some.ensures.slot) refl
