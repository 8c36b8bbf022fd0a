use Rattle.std.proofs.Common.{refl, ◌≡◌, ◌∙◌, Some, None, sym, ap, rules, [], ◌∷◌, length}
use Rattle.std.specs.Prelude.{is_ok}
use Rattle.tbl_kinds.specs.Notes.{untouched}
use Rattle.tbl_kinds.specs.StoreCalls.{copy}
use Rattle.tbl_model.specs.Copies.{block_of, copied_to}
use Rattle.tbl_outside.specs.BankCalls.{Asks}
use Rattle.cds_layout.specs.Images.{spelled}
use Rattle.cds_layout.specs.Order.{copy_calls}
use Rattle.cds_store.specs.Sound.{slot_at}
use Rattle.cds_store.specs.declared.slot.Slot.{Slot}
use Rattle.store_requests.specs.BankCalls.{AsksIn, copy_at}
use Rattle.store_requests.specs.Copying.{told_in}
use Rattle.store_requests.proofs.BankCalls.{at_open, asked_one, bank_calls_once}
use Rattle.store_requests.proofs.CopyEnds.{copied_after, same_copies, copied_call, copied_room, uncopied, keeps_room}
use Rattle.store_requests.proofs.copies.copy_image.Goals as goal

pub returns-in_default : goal.returns-in_default
returns-in_default g c =
    let b = g.B.Bank in
    let store = c.args.store.now in
    let before = told_in c.args.reply.now c.args.report.now untouched in
    let image = c.args.image.now in record {
      copied = λ t. uncopied b g.met.B.Bank.leaves_only_now g.met.B.Bank.only_now store before c.untouched.result c.requires.booted refl c.untouched.ensures _ (λ e n. copied_to c.args.row n e (block_of t e.next.store) (Some image))
          (λ e of stands events n.
          let none : block_of t e.next.store ≡ None = sym (c.sized_block.ensures.block t e.next.store of.0 (of.1 ∙ ap length (sym c.bytes.ensures)) stands) ∙ (search rules) in
          ap (λ o. copied_to c.args.row n e o (Some image)) none);
      room = keeps_room 24 before c.untouched.result;
      packets = refl;
    }

pub returns : goal.returns
returns g c =
    let b = g.B.Bank in
    let store = c.args.store.now in
    let new = c.copy-ended.new.self in
    let slot = c.in-Some.slot in
    let image = c.args.image.now in
    let before = told_in c.args.reply.now c.args.report.now untouched in
    let done = told_in c.copied.new.reply c.copied.new.report c.copied.result in
    let ended = c.copy-ended.ensures.copies in
    let calls = λ (s : Slot). copy_calls (b.now store.bank) slot s.block (spelled s.block.size image) in
    let told = c.copied.ensures.copied in record {
      copied = λ t. record {
        effect = λ tells e is of stands.
            let there : block_of t e.next.store ≡ Some slot = sym (c.sized_block.ensures.block t e.next.store of.0 (of.1 ∙ ap length (sym c.bytes.ensures)) stands) ∙ (search rules) in
            let asked : AsksIn b store new c.copied.result.outcome (copy slot image ∷ []) = asked_one b store.bank new.bank c.copied.result.outcome (copy_at (b.now store.bank) store.slots slot image)
            (bank_calls_once b store.bank new.bank (copy_at (b.now store.bank) store.slots slot image) c.copied.result c.copy-ended.result told.note
            (at_open (slot_at store.slots slot) (length image) calls (λ list. Asks b.tells_calls b.calls store.bank new.bank (is_ok c.copy-ended.result) list) (rw c.bytes.ensures at c.in-Some.ensures.sized) (ended.bank_calls tells))) in
            same_copies b store new e before is done (λ n. copied_to c.args.row n e (Some slot) (Some image)) (λ n. copied_to c.args.row n e (block_of t e.next.store) (Some image))
            (λ n. ap (λ o. copied_to c.args.row n e o (Some image)) there)
            (copied_after b store new e before is store c.args.row slot image done c.copy-ended.result (λ m. ended.moments m e.next.store stands) asked stands ended.breaks ended.ok ended.err told);
        call = copied_call b store new before done c.args.row slot c.copy-ended.result ended.booted ended.steady.fault_count ended.steady.stop_count ended.counted told;
      };
      room = copied_room c.args.row slot c.copy-ended.result before done told;
      packets = c.copied.ensures.packets;
    }
