use Rattle.std.proofs.Common.{ℕ, refl, subst, rules}
use Rattle.store_requests.specs.Requests.{at_desk}
use Rattle.tbl_model.specs.AppBlocks.{cds_copy_effect}
use Rattle.store_requests.specs.BankCalls.{asks_copy, copy_at}
use Rattle.store_requests.specs.OwnBlocks.{copying}
use Rattle.store_requests.proofs.BankCalls.{bank_calls_none}
use Rattle.store_requests.proofs.OwnBlocks.{copy_means, no_copy}
use Rattle.store_requests.proofs.Promised.{asking_alone, served_as}
use Rattle.store_requests.proofs.own_blocks.cds_copy.Goals as goal

pub returns-in-Ok : goal.returns-in-Ok
returns-in-Ok g c =
    let b = g.B.Bank in
    let old = c.args.store.now in
    let new = c.copy_into.new.store in
    let own = c.in-Ok.own in record {
      served = served_as b old new (at_desk c.args.desk.now c.args.store.now).state (λ s stands. stands) (λ s. copying s own.slot own.size c.args.image.now) (λ s. cds_copy_effect s c.args.app c.args.slot c.args.image.now)
          (λ s stands. copy_means _ c.args.app c.args.slot own.slot own.size c.args.image.now c.in-Ok.ensures.slot (c.in-Ok.ensures.ok _ refl stands)) (asks_copy own.slot c.args.image.now) (asks_copy c.args.slot c.args.image.now)
          (λ outcome asked. subst (λ (slot : ℕ). asks_copy slot c.args.image.now b old new outcome) c.in-Ok.ensures.slot asked) c.copy_into.result c.copy_into.ensures.served;
    }

pub returns-in-Err : goal.returns-in-Err
returns-in-Err g c =
    let b = g.B.Bank in
    let store = c.args.store.now in record {
      served = asking_alone b g.met.B.Bank.leaves_only_now g.met.B.Bank.only_now store (at_desk c.args.desk.now c.args.store.now).state (λ s stands. stands) (λ s. cds_copy_effect s c.args.app c.args.slot c.args.image.now) (asks_copy c.args.slot c.args.image.now)
          c.in-Err.status 0 c.plain.result c.plain.ensures (λ s stands. no_copy _ c.args.app c.args.slot c.args.image.now c.in-Err.status (c.in-Err.ensures.err _ refl stands)) (search rules)
          (λ tells. bank_calls_none b store.bank store.bank (copy_at (b.now store.bank) store.slots c.args.slot c.args.image.now) c.plain.result.note refl c.plain.ensures.note_is);
    }
