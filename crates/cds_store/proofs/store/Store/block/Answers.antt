use Rattle.std.proofs.Common.{◌∙◌, ap}
use Rattle.std.specs.Option.{option_map}
use Rattle.cds_store.specs.Slots.{block_of}
use Rattle.cds_store.specs.Sound.{slot_at}
use Rattle.cds_store.proofs.Alone.{sized_block}
use Rattle.cds_store.proofs.store.Store.block.Goals as goal

pub returns-clause-sized : goal.returns-clause-sized
returns-clause-sized g c =
    sized_block c.self.inside.slots.items c.args.slot c.block_in.result c.self.invariant.sound.together
    (c.block_in.ensures ∙ ap (λ l. option_map block_of (slot_at l c.args.slot)) c.deref.ensures.value)
