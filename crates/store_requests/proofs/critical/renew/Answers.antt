use Rattle.std.proofs.Common.{◌≡◌, ◌∙◌, refl, sym, subst, rules, None, Result}
use Rattle.std.specs.Prelude.{is_ok}
use Rattle.tbl_kinds.specs.declared.block.BlockKind.TheVariants.{Table}
use Rattle.tbl_kinds.specs.Notes.{untouched}
use Rattle.sharing.specs.Registering.{planned}
use Rattle.store_requests.specs.Called.{done_note}
use Rattle.store_requests.specs.Entering.{EntersReserved, EntersBroken}
use Rattle.store_requests.proofs.MadeBlocks.{renewed, delete_lost}
use Rattle.store_requests.proofs.Entries.{reserved_note, broken_is}
use Rattle.store_requests.proofs.Moments.{two_leave}
use Rattle.tbl_kinds.specs.StoreCalls.{reserve, delete, after}
use Rattle.tbl_kinds.specs.StoreSteps.{doubtful_of}
use Rattle.tbl_outside.specs.BankCalls.{Asks}
use Rattle.cds_layout.specs.Order.{delete_calls}
use Rattle.cds_store.specs.declared.fault.BankFault.{BankFault}
use Rattle.cds_store.proofs.Reservations.{doubtful_same}
use Rattle.store_requests.proofs.Reserved.{room_left}
use Rattle.store_requests.proofs.BankCalls.{asked_first, renewed_asked}
use Rattle.store_requests.proofs.critical.renew.Goals as goal
use Rattle.tbl_model.specs.State.{State}
use Rattle.cds_store.specs.Slots.{is_open_slot}
use Rattle.store_requests.proofs.OwnBlocks.{found_there}

pub delete_block-requires-clause-taken : goal.delete_block-requires-clause-taken
delete_block-requires-clause-taken g c = found_there (is_open_slot Table c.args.plan.name) c.args.store.now.slots c.args.old refl c.requires.renewable.open_block

pub reserve_block-made-requires-clause-none_open : goal.reserve_block-made-requires-clause-none_open
reserve_block-made-requires-clause-none_open g c = (c.in-Ok.ensures.deletes.alone Table c.args.plan.name c.requires.renewable.open_block).0

pub returns-in-Ok : goal.returns-in-Ok
returns-in-Ok g c =
    let b = g.B.Bank in
    let old = c.args.tables.now in
    let new = c.reserved.new.tables in
    let store = c.args.store.now in
    let mid = c.delete_block.new.self in
    let left = c.reserve_block-made.new.self in
    let plan = c.args.plan in
    let slot = c.args.old in
    let t = planned old c.args.app plan in
    let done = c.reserved.result in
    let gone = c.in-Ok.ensures.deletes in
    let made = c.reserve_block-made.ensures.reserves in
    let note : c.note_done.new.outside.note ≡ done_note untouched = search rules in
    let enters = subst (λ n. EntersReserved old new t done c.reserve_block-made.result n) note c.reserved.ensures.reserved in
    let alone = (gone.alone Table plan.name c.requires.renewable.open_block).1 in
    let deleted = subst (λ (r : Result Unit BankFault). Asks b.tells_calls b.calls store.bank mid.bank (is_ok r) (delete_calls slot)) c.in-Ok.is c.delete_block.ensures.deletes.bank_calls in record {
      registers = record {
        made = record {
          effect = λ tells s0 stands.
              let s : State = record s0 { tables = old } in
              let after_it = after (delete slot) s.store in
              let there = gone.ok s.store stands in
              let none : doubtful_of Table plan.name after_it ≡ None = sym (doubtful_same Table plan.name mid.slots after_it there.slots) ∙ alone in
              let room = c.requires.renewable.room s.store stands in
              renewed b store left s done old new t refl refl mid c.reserve_block-made.result slot
              (two_leave b store mid left (delete slot) (reserve Table t.name t.size) s.store (λ m. gone.moments m s.store stands) (λ m. made.moments m after_it there))
              (renewed_asked b store mid left Table plan.name plan.size done.note c.reserve_block-made.result after_it there.slots (made.full after_it there) slot deleted gone.freed
              (reserved_note b store left s done old new t refl refl c.reserve_block-made.result (done_note untouched) enters)
              (room_left Table s.store plan.name plan.size slot _ room none (made.full after_it there)) made.bank_calls)
              there alone room made.ok made.full made.err made.breaks enters;
          call = search rules;
        };
        one = search rules;
      };
    }

pub returns-in-Err : goal.returns-in-Err
returns-in-Err g c =
    let b = g.B.Bank in
    let old = c.args.tables.now in
    let new = c.lost.new.tables in
    let store = c.args.store.now in
    let left = c.delete_block.new.self in
    let slot = c.args.old in
    let fault = c.in-Err.fault in
    let t = planned old c.args.app c.args.plan in
    let done = c.lost.result in
    let kept = c.in-Err.ensures.deletes in
    let enters = subst (λ n. EntersBroken old new t done fault n) c.requires.fresh c.lost.ensures.broken in
    let asked = subst (λ (r : Result Unit BankFault). Asks b.tells_calls b.calls store.bank left.bank (is_ok r) (delete_calls slot)) c.in-Err.is c.delete_block.ensures.deletes.bank_calls in record {
      registers = record {
        made = record {
          effect = λ tells s0 stands.
              let s : State = record s0 { tables = old } in
              delete_lost b store left s done old new t refl refl store slot fault (λ m. kept.moments m s.store stands)
              (asked_first b store.bank left.bank done.note slot fault (broken_is b store left s done old new t refl refl fault untouched enters) asked _) stands kept.flags kept.err enters;
          call = search rules;
        };
        one = search rules;
      };
    }
