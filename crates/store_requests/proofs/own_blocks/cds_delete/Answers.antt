use Rattle.std.proofs.Common.{ℕ, refl, subst, rules}
use Rattle.store_requests.specs.Requests.{at_desk}
use Rattle.tbl_model.specs.AppBlocks.{cds_delete_effect}
use Rattle.cds_layout.specs.Order.{delete_calls}
use Rattle.store_requests.specs.BankCalls.{asks_delete}
use Rattle.store_requests.specs.OwnBlocks.{deleting}
use Rattle.store_requests.proofs.BankCalls.{bank_calls_none}
use Rattle.store_requests.proofs.OwnBlocks.{delete_means, no_delete}
use Rattle.store_requests.proofs.Promised.{asking_alone, served_as}
use Rattle.store_requests.proofs.own_blocks.cds_delete.Goals as goal

pub returns-in-Ok : goal.returns-in-Ok
returns-in-Ok g c =
    let b = g.B.Bank in
    let old = c.args.store.now in
    let new = c.delete.new.store in
    let own = c.in-Ok.own in record {
      served = served_as b old new (at_desk c.args.desk.now c.args.store.now).state (λ s stands. stands) (λ s. deleting s own.slot) (λ s. cds_delete_effect s c.args.app c.args.slot)
          (λ s stands. delete_means _ c.args.app c.args.slot own.slot own.size c.in-Ok.ensures.slot (c.in-Ok.ensures.ok _ refl stands)) (asks_delete own.slot) (asks_delete c.args.slot)
          (λ outcome asked. subst (λ (slot : ℕ). asks_delete slot b old new outcome) c.in-Ok.ensures.slot asked) c.delete.result c.delete.ensures.served;
    }

pub returns-in-Err : goal.returns-in-Err
returns-in-Err g c =
    let b = g.B.Bank in
    let store = c.args.store.now in record {
      served = asking_alone b g.met.B.Bank.leaves_only_now g.met.B.Bank.only_now store (at_desk c.args.desk.now c.args.store.now).state (λ s stands. stands) (λ s. cds_delete_effect s c.args.app c.args.slot) (asks_delete c.args.slot)
          c.in-Err.status 0 c.plain.result c.plain.ensures (λ s stands. no_delete _ c.args.app c.args.slot c.in-Err.status (c.in-Err.ensures.err _ refl stands)) (search rules)
          (bank_calls_none b store.bank store.bank (delete_calls c.args.slot) c.plain.result.note refl c.plain.ensures.note_is);
    }
