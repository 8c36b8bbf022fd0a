use Rattle.std.proofs.Common.{◌∙◌, ℕ, Option, refl, sym, subst, rules}
use Rattle.tbl_kinds.specs.declared.block.BlockKind.TheVariants.{Table}
use Rattle.tbl_kinds.specs.declared.status.TheConstants.Status.{ERR_CDS_NOT_FOUND, ERR_TABLE_ACTIVE}
use Rattle.tbl_model.specs.AppBlocks.{any_of, delete_table_block}
use Rattle.cds_layout.specs.Order.{close_calls}
use Rattle.store_requests.specs.BankCalls.{AsksBy, asks_delete, asks_delete_named, delete_named}
use Rattle.store_requests.specs.OwnBlocks.{deleting}
use Rattle.store_requests.proofs.BankCalls.{bank_calls_none}
use Rattle.store_requests.proofs.OwnBlocks.{none_means, active_means, table_means}
use Rattle.store_requests.proofs.Promised.{asking_alone, served_as}
use Rattle.store_requests.proofs.table_blocks.delete_table_block.Goals as goal

pub returns-in-None : goal.returns-in-None
returns-in-None g c =
    let b = g.B.Bank in
    let store = c.args.store.now in
    let name = c.args.name.now in record {
      served = λ row registered. asking_alone b g.met.B.Bank.leaves_only_now g.met.B.Bank.only_now store (λ s. s) (λ s stands. stands) (λ s n. delete_table_block s n (any_of Table name s.store) row) (asks_delete_named name)
          ERR_CDS_NOT_FOUND 0 c.plain.result c.plain.ensures (λ s stands n. none_means s n (any_of Table name s.store) row (sym (c.table_block.ensures.block s.store stands) ∙ c.in-None.is)) (search rules)
          (bank_calls_none b store.bank store.bank (delete_named store.slots name) c.plain.result.note refl c.plain.ensures.note_is);
    }

pub returns-in-Some : goal.returns-in-Some
returns-in-Some g c =
    let b = g.B.Bank in
    let store = c.args.store.now in
    let name = c.args.name.now in
    let slot = c.in-Some.field-0 in record {
      served = λ row registered. asking_alone b g.met.B.Bank.leaves_only_now g.met.B.Bank.only_now store (λ s. s) (λ s stands. stands) (λ s n. delete_table_block s n (any_of Table name s.store) row) (asks_delete_named name)
          ERR_TABLE_ACTIVE 0 c.plain-in-Some.result c.plain-in-Some.ensures (λ s stands n. active_means s n (any_of Table name s.store) row slot (sym (c.table_block.ensures.block s.store stands) ∙ c.in-Some.is) (registered ∙ c.if-is_registered.true)) (search rules)
          (bank_calls_none b store.bank store.bank (delete_named store.slots name) c.plain-in-Some.result.note refl c.plain-in-Some.ensures.note_is);
    }

pub returns-in-Some-2 : goal.returns-in-Some-2
returns-in-Some-2 g c =
    let b = g.B.Bank in
    let old = c.args.store.now in
    let new = c.delete.new.store in
    let name = c.args.name.now in
    let slot = c.in-Some.field-0 in record {
      served = λ row registered. served_as b old new (λ s. s) (λ s stands. stands) (λ s. deleting s slot) (λ s n. delete_table_block s n (any_of Table name s.store) row)
          (λ s stands n. table_means s n (any_of Table name s.store) row slot (sym (c.table_block.ensures.block s.store stands) ∙ c.in-Some.is) (registered ∙ c.if-is_registered.false)) (asks_delete slot) (asks_delete_named name)
          (λ outcome asked. subst (λ (o : Option ℕ). AsksBy b old.bank new.bank outcome (close_calls o)) (sym c.in-Some.is ∙ c.table_block.ensures.slot) asked) c.delete.result c.delete.ensures.served;
    }
