use Rattle.std.proofs.Common.{refl, subst, true, false, Ok, Err}
use Rattle.cds_layout.specs.Order.{boot_calls}
use Rattle.cds_store.specs.Promises.{Boots}
use Rattle.cds_store.specs.StoreBlocks.{StoreParts}
use Rattle.cds_store.proofs.Booted.{boots_store}
use Rattle.cds_store.proofs.store.Store.boot.Goals as goal

pub returns-in-Ok-clause-boots : goal.returns-in-Ok-clause-boots
returns-in-Ok-clause-boots g c =
    let b = g.B.Bank in
    let old : StoreParts _ = record { slots = c.self.inside.slots.items; bank = c.self.inside.bank; booted = c.self.inside.booted } in
    let slots = c.boot-ended.new.slots.items in
    subst (λ (o : StoreParts _). Boots b o (record { slots = slots; bank = c.boot-ended.new.bank; booted = true }) c.args.kind (boot_calls c.args.kind (b.now o.bank)) (Ok c.in-Ok.found)) c.self.view_is
    (boots_store b c.args.kind (boot_calls c.args.kind (b.now c.self.inside.bank)) old slots slots c.boot-ended.new.bank true (Ok c.in-Ok.found) refl c.in-Ok.ensures.boots)

pub returns-in-Err-clause-boots : goal.returns-in-Err-clause-boots
returns-in-Err-clause-boots g c =
    let b = g.B.Bank in
    let old : StoreParts _ = record { slots = c.self.inside.slots.items; bank = c.self.inside.bank; booted = c.self.inside.booted } in
    subst (λ (o : StoreParts _). Boots b o (record { slots = c.forget_all.new.slots.items; bank = c.boot-ended.new.bank; booted = false }) c.args.kind (boot_calls c.args.kind (b.now o.bank)) (Err c.in-Err.fault)) c.self.view_is
    (boots_store b c.args.kind (boot_calls c.args.kind (b.now c.self.inside.bank)) old c.boot-ended.new.slots.items c.forget_all.new.slots.items c.boot-ended.new.bank false (Err c.in-Err.fault) tt c.in-Err.ensures.boots)
