use Rattle.std.proofs.Common.{rules}
use Rattle.tbl_kinds.specs.declared.block.BlockKind.TheVariants.{Table}
use Rattle.store_requests.proofs.CopyEnds.{open_of_size}
use Rattle.store_requests.proofs.table_blocks.sized_block.Goals as goal

pub returns-then-block-size-clause-sized : goal.returns-then-block-size-clause-sized
returns-then-block-size-clause-sized g c =
    open_of_size Table c.args.name.now c.args.store.now.slots c.in_ok-slot.slot c.args.size c.in_ok-block.block.now (search rules) (search rules) (search rules)
