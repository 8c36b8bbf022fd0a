use Rattle.std.proofs.Common.{List, length, Option, subst}
use Rattle.cds_store.specs.Promises.{Restores}
use Rattle.cds_store.specs.StoreBlocks.{kept}
use Rattle.cds_store.specs.declared.slot.Slot.{Slot}
use Rattle.cds_store.proofs.Booted.{of_store}
use Rattle.cds_store.proofs.store.Store.restore.Goals as goal

pub returns : goal.returns
returns g c = record {
  restores = of_store (λ old new. Restores g.B.Bank old new c.args.slot (length c.args.into.now) c.restore.new.into c.restore.result) c.self.inside.slots.items c.self.inside.slots.items c.self.inside.bank c.restore.new.bank c.self.inside.booted
      c.args.self.now c.self.view_is c.requires.booted
      (subst (λ (l : List (Option Slot)). Restores g.B.Bank (kept l c.self.inside.bank) (kept l c.restore.new.bank) c.args.slot (length c.args.into.now) c.restore.new.into c.restore.result) c.deref.ensures.value c.restore.ensures.restores);
}
