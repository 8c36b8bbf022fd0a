use Rattle.cds_store.specs.Promises.{Reserves}
use Rattle.cds_store.proofs.Booted.{of_store}
use Rattle.cds_store.proofs.store.Store.reserve_block.Goals as goal

pub returns : goal.returns
returns g c = record {
  reserves = of_store (λ old new. Reserves g.B.Bank old new c.args.kind c.args.name.now c.args.size c.reserve.result) c.self.inside.slots.items c.reserve.new.slots.items c.self.inside.bank c.reserve.new.bank c.self.inside.booted
      c.args.self.now c.self.view_is c.requires.booted c.reserve.ensures.reserves;
}
