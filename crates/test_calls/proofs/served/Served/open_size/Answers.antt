use Rattle.std.proofs.Common.{rules, ◌≡◌, Some, sym}
use Rattle.cds_store.specs.Slots.{open_slot}
use Rattle.test_calls.proofs.Opens.{found_open}
use Rattle.test_calls.proofs.served.Served.open_size.Goals as goal

pub returns-then-eq : goal.returns-then-eq
returns-then-eq c =
    let block = c.in_ok-block.block.now in
    let slots = c.args.self.now.store.slots in
    let found : open_slot block.kind block.name slots ≡ Some c.args.slot = search rules in
    found_open slots c.args.slot block.kind block.name block (sym c.in_ok-block.ensures.slot) found
