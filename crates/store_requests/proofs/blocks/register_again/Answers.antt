use Rattle.std.proofs.Common.{◌≡◌, ◌∙◌, Some, true, false, refl, sym, rules}
use Rattle.tbl_kinds.specs.StoreSteps.{stored_at, has_room}
use Rattle.tbl_kinds.specs.declared.block.BlockKind.TheVariants.{App}
use Rattle.tbl_kinds.specs.declared.status.TheConstants.Status.{INFO_CDS_EXISTS, ERR_CDS_NO_ROOM}
use Rattle.tbl_model.specs.AppBlocks.{has_size, block_effect}
use Rattle.cds_store.proofs.Reservations.{open_same}
use Rattle.store_requests.specs.BankCalls.{asks_renew}
use Rattle.store_requests.specs.OwnBlocks.{renewing}
use Rattle.store_requests.proofs.BankCalls.{bank_calls_none}
use Rattle.store_requests.proofs.Promised.{asking_alone, made_as}
use Rattle.store_requests.proofs.Reserved.{any_is, block_means, no_room, there_already}
use Rattle.store_requests.proofs.blocks.register_again.Goals as goal

pub returns-then-has_size : goal.returns-then-has_size
returns-then-has_size g c =
    let b = g.B.Bank in
    let store = c.args.store.now in
    let name = c.args.name.now in record {
      served = asking_alone b g.met.B.Bank.leaves_only_now g.met.B.Bank.only_now store (λ s. s) (λ s stands. stands) (λ s n. block_effect s name c.args.size n (Some c.args.slot)) (asks_renew c.args.slot name c.args.size)
          INFO_CDS_EXISTS c.args.slot c.of.result (search rules) (λ s stands n. there_already s name c.args.size n c.args.slot (sym (c.has_size.ensures s.store stands) ∙ c.if-has_size.true)) (search rules)
          (λ blocks stands calls there. bank_calls_none b store.bank store.bank calls c.of.result.note refl c.of.ensures.note_is);
    }

pub returns-then-not-room : goal.returns-then-not-room
returns-then-not-room g c =
    let b = g.B.Bank in
    let store = c.args.store.now in
    let slot = c.args.slot in
    let name = c.args.name.now in record {
      served = asking_alone b g.met.B.Bank.leaves_only_now g.met.B.Bank.only_now store (λ s. s) (λ s stands. stands) (λ s n. block_effect s name c.args.size n (Some slot)) (asks_renew slot name c.args.size)
          ERR_CDS_NO_ROOM 0 c.plain.result c.plain.ensures
          (λ s stands n.
          let other : has_size c.args.size (stored_at s.store slot) ≡ false = sym (c.has_size.ensures s.store stands) ∙ c.if-has_size.false in
          let full : has_room c.args.size (Some slot) s.store ≡ false = sym (c.room.ensures s.store stands) ∙ c.if-not-room.true in
          no_room s name c.args.size n (Some slot) (Some slot) (any_is s name (Some slot) (sym (open_same App name store.slots s.store stands.slots) ∙ c.requires.open_block)) other full) (search rules)
          (λ blocks stands calls there. bank_calls_none b store.bank store.bank calls c.plain.result.note refl c.plain.ensures.note_is);
    }

pub renew-requires-clause-renewable : goal.renew-requires-clause-renewable
renew-requires-clause-renewable g c = record { open_block = c.requires.open_block; room = λ blocks stands. sym (c.room.ensures blocks stands) ∙ c.if-not-room.false }

pub returns : goal.returns
returns g c =
    let b = g.B.Bank in
    let store = c.args.store.now in
    let slot = c.args.slot in
    let name = c.args.name.now in
    let served = c.renew.ensures.served in record {
      served = record {
        made = made_as b store c.renew.new.store (λ s. s) (λ s stands. stands) (λ s. renewing s name c.args.size slot) (λ s n. block_effect s name c.args.size n (Some slot))
            (λ s stands n.
            let other : has_size c.args.size (stored_at s.store slot) ≡ false = sym (c.has_size.ensures s.store stands) ∙ c.if-has_size.false in
            let room : has_room c.args.size (Some slot) s.store ≡ true = sym (c.room.ensures s.store stands) ∙ c.if-not-room.false in
            block_means s name c.args.size n (Some slot) (Some slot) (any_is s name (Some slot) (sym (open_same App name store.slots s.store stands.slots) ∙ c.requires.open_block)) other room) c.renew.result served.made;
        silent = served.silent;
        bank_calls = served.bank_calls;
      };
    }
