use Rattle.std.proofs.Common.{rules}
use Rattle.std.specs.Prelude.{is_ok}
use Rattle.cds_layout.specs.Images.{spelled}
use Rattle.cds_layout.specs.Order.{copy_calls}
use Rattle.cds_store.specs.declared.slot.Slot.{Slot}
use Rattle.tbl_outside.specs.BankCalls.{Asks}
use Rattle.store_requests.specs.BankCalls.{asks_copy, copy_at}
use Rattle.store_requests.proofs.BankCalls.{at_open, asked_one, bank_calls_once}
use Rattle.store_requests.proofs.Calls.{copy_called}
use Rattle.store_requests.proofs.own_blocks.copy_into.Goals as goal

pub returns : goal.returns
returns g c =
    let b = g.B.Bank in
    let old = c.args.store.now in
    let new = c.copy-ended.new.self in
    let slot = c.args.own.slot in
    let image = c.args.image.now in
    let call = rw c.of.ensures at c.copy-ended.ensures.copies in
    let calls = copy_at (b.now old.bank) old.slots slot image in
    let asked : asks_copy slot image b old new c.called.result.note.outcome = λ told. bank_calls_once b old.bank new.bank calls c.called.result.note c.copy-ended.result c.called.ensures.note_is
    (at_open _ c.args.own.size (λ (s : Slot). copy_calls (b.now old.bank) slot s.block (spelled s.block.size image)) (λ calls. Asks b.tells_calls b.calls old.bank new.bank (is_ok c.copy-ended.result) calls) c.requires.own (call.bank_calls told)) in record {
      served = record {
        made = record {
          effect = λ tells s stands. copy_called b old old new s c.called.result slot c.copy-ended.result stands c.called.ensures image c.args.own.size (λ m. call.moments m s.store stands)
              (asked_one b old.bank new.bank c.called.result.note.outcome calls (asked tells)) c.if-image-own.false call.breaks call.ok call.err;
          call = search rules;
        };
        silent = c.called.ensures.silent;
        bank_calls = asked;
      };
    }
