use Rattle.std.proofs.Common.{false}
use Rattle.cds_store.specs.Promises.{Deletes}
use Rattle.cds_store.proofs.Booted.{of_store}
use Rattle.cds_store.proofs.store.Store.delete_block.Goals as goal

pub returns : goal.returns
returns g c = record {
  deletes = of_store (λ old new. Deletes g.B.Bank old new c.args.slot false c.close.result) c.self.inside.slots.items c.close.new.slots.items c.self.inside.bank c.close.new.bank c.self.inside.booted
      c.args.self.now c.self.view_is c.requires.booted c.close.ensures.deletes;
}
