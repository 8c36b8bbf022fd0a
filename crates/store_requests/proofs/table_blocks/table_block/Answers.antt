use Rattle.std.proofs.Common.{◌∙◌, sym, refl}
use Rattle.tbl_kinds.specs.declared.block.BlockKind.TheVariants.{Table}
use Rattle.cds_store.specs.Slots.{is_open_slot}
use Rattle.store_requests.proofs.OwnBlocks.{found_there, doubtful_there}
use Rattle.store_requests.proofs.table_blocks.table_block.Goals as goal

pub returns-in-Some-clause-taken : goal.returns-in-Some-clause-taken
returns-in-Some-clause-taken g c = found_there (is_open_slot Table c.args.name.now) c.args.store.now.slots c.in-Some.slot refl (sym c.find.ensures.slot ∙ c.in-Some.is)

pub returns-in-None-clause-taken : goal.returns-in-None-clause-taken
returns-in-None-clause-taken g c = doubtful_there c.args.store.now.slots c.args.name.now c.doubtful.result c.doubtful.ensures.slot
