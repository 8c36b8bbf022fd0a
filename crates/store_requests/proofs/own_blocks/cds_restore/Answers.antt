use Rattle.std.proofs.Common.{ℕ, Ok, refl, subst, rules}
use Rattle.store_requests.specs.Requests.{at_desk}
use Rattle.tbl_model.specs.AppBlocks.{cds_restore_effect}
use Rattle.store_requests.specs.BankCalls.{asks_restore, restore_at}
use Rattle.store_requests.specs.OwnBlocks.{restoring}
use Rattle.store_requests.proofs.BankCalls.{bank_calls_none}
use Rattle.store_requests.proofs.OwnBlocks.{restore_means, no_restore}
use Rattle.store_requests.proofs.Promised.{asking_alone, served_as}
use Rattle.store_requests.proofs.own_blocks.cds_restore.Goals as goal

pub returns : goal.returns
returns g c =
    let b = g.B.Bank in
    let old = c.args.store.now in
    let new = c.restore_into.new.store in
    let own = c.in-Ok.own in record {
      served = served_as b old new (at_desk c.args.desk.now c.args.store.now).state (λ s stands. stands) (λ s. restoring s own.slot) (λ s. cds_restore_effect s c.args.app c.args.slot)
          (λ s stands. restore_means _ c.args.app c.args.slot own.slot own.size c.in-Ok.ensures.slot (c.in-Ok.ensures.ok _ refl stands)) {E = ℕ} (asks_restore own.slot) (asks_restore c.args.slot)
          (λ outcome asked. subst (λ (slot : ℕ). asks_restore slot b old new outcome) c.in-Ok.ensures.slot asked) (Ok c.restore_into.result) c.restore_into.ensures.served;
    }

pub returns-in-Err : goal.returns-in-Err
returns-in-Err g c =
    let b = g.B.Bank in
    let store = c.args.store.now in record {
      served = asking_alone b g.met.B.Bank.leaves_only_now g.met.B.Bank.only_now store (at_desk c.args.desk.now c.args.store.now).state (λ s stands. stands) (λ s. cds_restore_effect s c.args.app c.args.slot) (asks_restore c.args.slot)
          c.in-Err.status 0 c.plain.result c.plain.ensures (λ s stands. no_restore _ c.args.app c.args.slot c.in-Err.status (c.in-Err.ensures.err _ refl stands)) (search rules)
          (λ tells. bank_calls_none b store.bank store.bank (restore_at (b.now store.bank) store.slots c.args.slot) c.plain.result.note refl c.plain.ensures.note_is);
    }
