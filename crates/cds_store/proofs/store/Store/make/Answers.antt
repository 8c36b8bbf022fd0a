use Rattle.cds_store.proofs.Booted.{made_kept}
use Rattle.cds_store.proofs.store.Store.make.Goals as goal

pub invariant_of-result : goal.invariant_of-result
invariant_of-result g c =
    let b = g.B.Bank in
    made_kept b.tells b.size b.now c.in-Ok.room.slots.items c.args.bank c.in-Ok.room.front.items c.in-Ok.room.place.items c.in-Ok.ensures.room.slots_are c.requires c.in-Ok.ensures.room.front c.in-Ok.ensures.room.place_len
