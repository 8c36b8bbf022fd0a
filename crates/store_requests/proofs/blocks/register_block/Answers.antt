use Rattle.std.proofs.Common.{◌∙◌, ℕ, Option, Some, None, sym, ap, subst}
use Rattle.std.specs.Option.{ForSome}
use Rattle.tbl_kinds.specs.StoreSteps.{open_of}
use Rattle.tbl_kinds.specs.declared.block.BlockKind.TheVariants.{App}
use Rattle.tbl_model.specs.AppBlocks.{block_effect}
use Rattle.store_requests.specs.BankCalls.{AsksBy, register_at, asks_make, asks_renew, asks_register}
use Rattle.store_requests.proofs.Promised.{served_as}
use Rattle.store_requests.proofs.blocks.register_block.Goals as goal

pub returns-in-Some : goal.returns-in-Some
returns-in-Some g c =
    let b = g.B.Bank in
    let old = c.args.store.now in
    let new = c.register_again.new.store in
    let name = c.args.name.now in
    let size = c.args.size in
    let slot = c.in-Some.slot in record {
      served = served_as b old new (λ s. s) (λ s stands. stands) (λ s n. block_effect s name size n (Some slot)) (λ s n. block_effect s name size n (open_of App name s.store))
          (λ s stands n. ap (block_effect s name size n) (sym (c.find.ensures.block s.store stands) ∙ c.in-Some.is)) (asks_renew slot name size) (asks_register name size)
          (λ outcome asked blocks stands. subst (λ (o : Option ℕ). ForSome (register_at o old.slots name size) (λ calls. AsksBy b old.bank new.bank outcome calls)) (sym c.in-Some.is ∙ c.find.ensures.slot) (asked blocks stands)) c.register_again.result c.register_again.ensures.served;
    }

pub returns-in-None : goal.returns-in-None
returns-in-None g c =
    let b = g.B.Bank in
    let old = c.args.store.now in
    let new = c.register_new.new.store in
    let name = c.args.name.now in
    let size = c.args.size in record {
      served = served_as b old new (λ s. s) (λ s stands. stands) (λ s n. block_effect s name size n None) (λ s n. block_effect s name size n (open_of App name s.store))
          (λ s stands n. ap (block_effect s name size n) (sym (c.find.ensures.block s.store stands) ∙ c.in-None.is)) (asks_make name size) (asks_register name size)
          (λ outcome asked blocks stands. subst (λ (o : Option ℕ). ForSome (register_at o old.slots name size) (λ calls. AsksBy b old.bank new.bank outcome calls)) (sym c.in-None.is ∙ c.find.ensures.slot) asked) c.register_new.result c.register_new.ensures.served;
    }
