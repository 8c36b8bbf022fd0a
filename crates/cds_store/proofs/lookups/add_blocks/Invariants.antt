use Rattle.std.proofs.Common.{◌≡◌, ◌++◌, take}
use Rattle.cds_store.specs.Slots.{blocks_of}
use Rattle.cds_store.proofs.lookups.add_blocks.Given as goal

abbrev pub invariant-loop-slot : goal.invariant-loop-slot
invariant-loop-slot l = l.blocks.items ≡ l.fn.blocks.items ++ blocks_of (take l.slot-index l.slots)
