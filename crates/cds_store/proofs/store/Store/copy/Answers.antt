use Rattle.std.proofs.Common.{List, Option, subst}
use Rattle.cds_store.specs.Promises.{Copies}
use Rattle.cds_store.specs.StoreBlocks.{kept}
use Rattle.cds_store.specs.declared.slot.Slot.{Slot}
use Rattle.cds_store.proofs.Booted.{of_store}
use Rattle.cds_store.proofs.store.Store.copy.Goals as goal

pub returns : goal.returns
returns g c = record {
  copies = of_store (λ old new. Copies g.B.Bank old new c.args.slot c.args.image.now c.copy.result) c.self.inside.slots.items c.self.inside.slots.items c.self.inside.bank c.copy.new.bank c.self.inside.booted
      c.args.self.now c.self.view_is c.requires.booted
      (subst (λ (l : List (Option Slot)). Copies g.B.Bank (kept l c.self.inside.bank) (kept l c.copy.new.bank) c.args.slot c.args.image.now c.copy.result) c.deref.ensures.value c.copy.ensures.copies);
}
