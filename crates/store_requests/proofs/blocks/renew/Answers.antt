use Rattle.std.proofs.Common.{ap, ◌∙◌, refl, sym, [], ◌∷◌, Some, true, false, rules, ◌≡◌, ℕ, List, Option, None, Result, subst}
use Rattle.tbl_kinds.specs.StoreCalls.{reserve, delete, after}
use Rattle.tbl_kinds.specs.declared.block.BlockKind.TheVariants.{App}
use Rattle.tbl_kinds.specs.declared.status.TheConstants.Status.{SUCCESS}
use Rattle.tbl_kinds.specs.Notes.{untouched}
use Rattle.tbl_model.specs.AppBlocks.{new_slot}
use Rattle.store_requests.specs.Called.{reserve_note, done_note, broken_note}
use Rattle.store_requests.proofs.Calls.{by_note, told_with, first_broke, flags_break}
use Rattle.store_requests.proofs.Reserved.{renewed, room_left}
use Rattle.store_requests.proofs.Moments.{one_leaves, two_leave}
use Rattle.tbl_kinds.specs.StoreSteps.{doubtful_of}
use Rattle.cds_store.proofs.Reservations.{doubtful_same}
use Rattle.cds_store.specs.declared.fault.BankFault.{BankFault}
use Rattle.cds_store.specs.declared.slot.Slot.{Slot}
use Rattle.cds_store.specs.Slots.{doubtful_slot, without_slot, room_in, is_open_slot}
use Rattle.cds_layout.specs.Order.{delete_calls, reserve_calls}
use Rattle.tbl_outside.specs.BankCalls.{BankCall, Asks}
use Rattle.std.specs.Option.{ForSome, option_map}
use Rattle.std.specs.Prelude.{is_ok, ◌++◌, slice_set}
use Rattle.store_requests.specs.BankCalls.{AsksBy, make_at}
use Rattle.store_requests.proofs.BankCalls.{bank_calls_renew, bank_calls_first, asked_first, renewed_asked}
use Rattle.store_requests.proofs.blocks.renew.Goals as goal
use Rattle.store_requests.proofs.OwnBlocks.{found_there}
use Rattle.store_requests.specs.OwnBlocks.{renewing}
use Rattle.tbl_kinds.specs.Blocks.{Store as Blocks}
use Rattle.cds_store.specs.StoreBlocks.{StandsFor}

pub delete_block-requires-clause-taken : goal.delete_block-requires-clause-taken
delete_block-requires-clause-taken g c = found_there (is_open_slot App c.args.name.now) c.args.store.now.slots c.args.old refl c.requires.renewable.open_block

pub reserve_block-made-requires-clause-none_open : goal.reserve_block-made-requires-clause-none_open
reserve_block-made-requires-clause-none_open g c = (c.in-Ok.ensures.deletes.alone App c.args.name.now c.requires.renewable.open_block).0

-- a block of this name in doubt isn't there after the deletion, so there is room
pub returns-in-Ok : goal.returns-in-Ok
returns-in-Ok g c =
    let b = g.B.Bank in
    let old = c.args.store.now in
    let mid = c.delete_block.new.self in
    let new = c.reserve_block-made.new.self in
    let slot = c.args.old in
    let name = c.args.name.now in
    let size = c.args.size in
    let gone = c.in-Ok.ensures.deletes in
    let made = c.reserve_block-made.ensures.reserves in
    let alone = (gone.alone App name c.requires.renewable.open_block).1 in
    let note : c.reserved.result.note ≡ reserve_note c.reserve_block-made.result (done_note untouched) = search rules in
    let told = told_with refl (sym c.reserved.ensures.note_is ∙ note) c.reserved.ensures in
    let none : (blocks : Blocks) → StandsFor b.tells b.now old blocks → doubtful_of App name (after (delete slot) blocks) ≡ None = λ blocks stands. sym (doubtful_same App name mid.slots (after (delete slot) blocks) (gone.ok blocks stands).slots) ∙ alone in
    let doubtful = doubtful_slot App name mid.slots in
    let deleted = subst (λ (r : Result Unit BankFault). Asks b.tells_calls b.calls old.bank mid.bank (is_ok r) (delete_calls slot)) c.in-Ok.is c.delete_block.ensures.deletes.bank_calls in record {
      served = record {
        made = record {
          effect = λ tells s stands.
              let left = after (delete slot) s.store in
              let there = gone.ok s.store stands in
              let room = c.requires.renewable.room s.store stands in
              renewed b old mid new s c.reserved.result name size c.reserve_block-made.result slot
              (two_leave b old mid new (delete slot) (reserve App name size) s.store (λ m. gone.moments m s.store stands) (λ m. made.moments m left there))
              (renewed_asked b old mid new App name size c.reserved.result.note c.reserve_block-made.result left there.slots (made.full left there) slot deleted gone.freed note
              (room_left App s.store name size slot _ room (none s.store stands) (made.full left there)) made.bank_calls)
              there alone room made.ok made.slot made.full made.err made.breaks told;
          call = search rules;
        };
        silent = told.silent;
        bank_calls = λ blocks stands.
            let left = after (delete slot) blocks in
            subst (λ (slots : List (Option Slot)). ForSome (option_map (λ (calls : List BankCall). delete_calls slot ++ calls) (make_at App slots name size)) (λ calls. AsksBy b old.bank new.bank c.reserved.result.note.outcome calls)) gone.freed
            (bank_calls_renew b old.bank new.bank c.reserved.result.note (room_in size (without_slot doubtful mid.slots)) (λ (place : ℕ × ℕ). reserve_calls doubtful place.0 (record { kind = App; offset = place.1; size = size; name = name })) mid.bank slot deleted
            c.reserve_block-made.result note (room_left App blocks name size slot _ (c.requires.renewable.room blocks stands) (none blocks stands) (made.full left (gone.ok blocks stands))) made.bank_calls);
      };
    }

pub returns-in-Err : goal.returns-in-Err
returns-in-Err g c =
    let b = g.B.Bank in
    let old = c.args.store.now in
    let new = c.delete_block.new.self in
    let slot = c.args.old in
    let name = c.args.name.now in
    let size = c.args.size in
    let fault = c.in-Err.fault in
    let kept = c.in-Err.ensures.deletes in
    let told = told_with refl (ap (broken_note fault) c.requires.fresh) c.broken.ensures in
    let asked = subst (λ (r : Result Unit BankFault). Asks b.tells_calls b.calls old.bank new.bank (is_ok r) (delete_calls slot)) c.in-Err.is c.delete_block.ensures.deletes.bank_calls in record {
      served = record {
        made = record {
          effect = λ tells s stands. by_note b old new s c.broken.result (λ n. renewing s name size slot n) (broken_note fault untouched) told.note_is
              (first_broke b old new s c.broken.result (delete slot) (reserve App name size ∷ []) (one_leaves b old new (delete slot) (reserve App name size ∷ []) s.store (λ m. kept.moments m s.store stands))
              (asked_first b old.bank new.bank c.broken.result.note slot fault told.note_is asked _) refl SUCCESS (new_slot App name (Some slot) s.store) fault old refl
              (flags_break true false fault (delete slot) s.store (refl, refl) kept.flags) stands kept.err told);
          call = search rules;
        };
        silent = told.silent;
        bank_calls = λ blocks stands. bank_calls_first b old.bank new.bank c.broken.result.note slot fault (make_at App (slice_set old.slots slot None) name size) told.note_is asked;
      };
    }
