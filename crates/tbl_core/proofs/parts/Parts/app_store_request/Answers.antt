use Rattle.std.proofs.Common.{◌∙◌, List, ℕ, suc, ap, refl, subst}
use Rattle.tbl_model.specs.Registration.{register_effect}
use Rattle.tbl_model.specs.AppBlocks.{cds_register_effect, cds_copy_effect, cds_restore_effect, cds_delete_effect}
use Rattle.tbl_kinds.specs.declared.request.Actor.TheVariants.{App}
use Rattle.sharing.specs.Apps.{app_name}
use Rattle.desk.specs.declared.desk.Desk.{Desk}
use Rattle.store_requests.specs.BankCalls.{asks_copy, asks_delete, asks_register_for, asks_restore}
use Rattle.store_requests.specs.Requests.{Made, Served, at_desk}
use Rattle.tbl_model.specs.Fit.{AreFit}
use Rattle.validation.specs.Kits.{owners}
use Rattle.tbl_core.proofs.Served.{parts_at}
use Rattle.tbl_core.proofs.StoreRequests.{registers_keeps, both_lost, with_two, call_makes, call_meets, blocks_tried}
use Rattle.tbl_core.proofs.Telling.{store_no_get, app_no_reset}
use Rattle.tbl_core.specs.Service.{parts_view, state_of}
use Rattle.tbl_core.proofs.parts.Parts.app_store_request.Goals as goal

pub returns-in-CdsRegister : goal.returns-in-CdsRegister
returns-in-CdsRegister g c =
    blocks_tried g.B.Bank g.C.Validator (parts_view c.args.self.now) c.cds_register.new.store c.args.request.now c.requires.ready.live (λ s. cds_register_effect s c.args.app c.in-CdsRegister.name c.in-CdsRegister.size) (asks_register_for (app_name c.args.self.now.desk.apps c.args.app) c.in-CdsRegister.name c.in-CdsRegister.size) c.cds_register.result c.cds_register.ensures.served
    (App c.args.app) (store_no_get c.args.request.now c.requires.calls) (app_no_reset c.args.app c.args.request.now c.requires.fits) (λ s given. rw c.in-CdsRegister.is refl)

pub returns-in-CdsRestore : goal.returns-in-CdsRestore
returns-in-CdsRestore g c =
    blocks_tried g.B.Bank g.C.Validator (parts_view c.args.self.now) c.cds_restore.new.store c.args.request.now c.requires.ready.live (λ s. cds_restore_effect s c.args.app c.in-CdsRestore.slot) (asks_restore c.in-CdsRestore.slot) c.cds_restore.result c.cds_restore.ensures.served
    (App c.args.app) (store_no_get c.args.request.now c.requires.calls) (app_no_reset c.args.app c.args.request.now c.requires.fits) (λ s given. rw c.in-CdsRestore.is refl)

pub returns-in-CdsDelete : goal.returns-in-CdsDelete
returns-in-CdsDelete g c =
    blocks_tried g.B.Bank g.C.Validator (parts_view c.args.self.now) c.cds_delete.new.store c.args.request.now c.requires.ready.live (λ s. cds_delete_effect s c.args.app c.in-CdsDelete.slot) (asks_delete c.in-CdsDelete.slot) c.cds_delete.result c.cds_delete.ensures.served
    (App c.args.app) (store_no_get c.args.request.now c.requires.calls) (app_no_reset c.args.app c.args.request.now c.requires.fits) (λ s given. rw c.in-CdsDelete.is refl)

pub returns-in-CdsCopy : goal.returns-in-CdsCopy
returns-in-CdsCopy g c =
    let b = g.B.Bank in
    let self = c.args.self.now in
    let served = subst (λ (image : List ℕ). Served b (at_desk self.desk self.store) (at_desk self.desk c.cds_copy.new.store) (λ s. cds_copy_effect s c.args.app c.in-CdsCopy.slot image) (asks_copy c.in-CdsCopy.slot image) c.cds_copy.result) c.bytes.ensures c.cds_copy.ensures.served in
    blocks_tried b g.C.Validator (parts_view self) c.cds_copy.new.store c.args.request.now c.requires.ready.live (λ s. cds_copy_effect s c.args.app c.in-CdsCopy.slot c.in-CdsCopy.image.list) (asks_copy c.in-CdsCopy.slot c.in-CdsCopy.image.list) c.cds_copy.result served
    (App c.args.app) (store_no_get c.args.request.now c.requires.calls) (app_no_reset c.args.app c.args.request.now c.requires.fits) (λ s given. rw c.in-CdsCopy.is refl)

pub returns-in-Register : goal.returns-in-Register
returns-in-Register g c =
    let b = g.B.Bank in
    let v = g.C.Validator in
    let self = c.args.self.now in
    let desk = c.register.new.desk in
    let store = c.register.new.store in
    let r = c.in-Register in
    let held = ap (λ (desk : Desk _). parts_at store self.ended desk) c.register.ensures.held in
    record {
      made = with_two c.register.result _ _ _ _ c.register.ensures.made c.register.ensures.fit c.register.ensures.one (λ done made fit one. record {
        makes = call_makes b v (parts_view self) (parts_at store self.ended desk) c.args.request.now done held c.requires.ready.live made.call
            (λ n was. subst (λ (d : Desk _). AreFit (suc n) (record (state_of (parts_view self)) { tables = desk.tables; kit = owners d.kit; apps = d.apps })) c.register.ensures.held (fit (state_of (parts_view self)) n was))
            (registers_keeps self.desk.tables desk.tables c.args.app one) (store_no_get c.args.request.now c.requires.calls);
        meets = rw (r.is) (call_meets b v (parts_view self) (parts_at store self.ended desk) _ done held c.requires.ready.live made.call (λ s n. register_effect s c.args.app r.name r.size r.flags r.validator n)
            (subst (λ (name : List ℕ). Made b (at_desk self.desk self.store) (at_desk desk store) (λ s n. register_effect s c.args.app name r.size r.flags r.validator n) done) c.copy.ensures made) refl);
      });
      err = both_lost c.register.result _ _ _ c.register.ensures.err_tables c.register.ensures.err_store (λ tables kept. held ∙ (λ i. record (parts_view self) { tables = tables i; store = kept i }));
    }
