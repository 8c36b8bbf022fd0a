use Rattle.std.proofs.Common.{refl, rules, ap, ◌∙◌, sym, ℕ}
use Rattle.tbl_kinds.specs.declared.block.BlockKind.TheVariants.{App}
use Rattle.cds_store.proofs.Reservations.{open_same}
use Rattle.store_requests.specs.Called.{reserve_note}
use Rattle.store_requests.proofs.Calls.{told_with}
use Rattle.store_requests.proofs.Reserved.{new_called}
use Rattle.store_requests.proofs.Moments.{uncalled_leaves}
use Rattle.cds_store.specs.StoreBlocks.{StoreParts}
use Rattle.cds_store.specs.Slots.{doubtful_slot, without_slot, room_in}
use Rattle.cds_layout.specs.Order.{reserve_calls}
use Rattle.store_requests.proofs.BankCalls.{bank_calls_make, reserved_asked}
use Rattle.store_requests.proofs.blocks.register_new.Goals as goal

pub returns : goal.returns
returns g c =
    let b = g.B.Bank in
    let old = c.args.store.now in
    let new = c.reserve_block-made.new.self in
    let made = c.reserve_block-made.ensures.reserves in
    let name = c.args.name.now in
    let size = c.args.size in
    let doubtful = doubtful_slot App name old.slots in
    let told = told_with refl (ap (reserve_note c.reserve_block-made.result) c.in_ok-note.ensures) c.reserved.ensures in record {
      served = record {
        made = record {
          effect = λ tells s stands. new_called b old old new s c.reserved.result name size c.reserve_block-made.result (λ m. made.moments m s.store stands)
              (reserved_asked b old old new App name size c.reserved.result.note c.reserve_block-made.result s.store stands.slots (made.full s.store stands) told.note_is made.untouched made.bank_calls)
              (λ same. uncalled_leaves b g.met.B.Bank.leaves_only_now g.met.B.Bank.only_now old new s.store same (stands.shows tells)) (sym (open_same App name old.slots s.store stands.slots) ∙ c.requires.none_open) stands
              made.ok made.slot made.full made.untouched made.err made.breaks told;
          call = search rules;
        };
        silent = told.silent;
        bank_calls = bank_calls_make b old.bank new.bank c.reserved.result.note (room_in size (without_slot doubtful old.slots)) (λ (place : ℕ × ℕ). reserve_calls doubtful place.0 (record { kind = App; offset = place.1; size = size; name = name }))
            c.reserve_block-made.result told.note_is (λ lacks. ap (λ (store : StoreParts g.row.B.Denot). store.bank) (made.untouched lacks)) made.bank_calls;
      };
    }
