use Rattle.std.proofs.Common.{rules}
use Rattle.cds_layout.specs.Order.{delete_calls}
use Rattle.store_requests.proofs.BankCalls.{bank_calls_once}
use Rattle.store_requests.proofs.Calls.{delete_called}
use Rattle.store_requests.proofs.blocks.delete.Goals as goal

pub returns : goal.returns
returns g c =
    let b = g.B.Bank in
    let old = c.args.store.now in
    let new = c.delete_block-ended.new.self in
    let call = c.delete_block-ended.ensures.deletes in
    let asked = bank_calls_once b old.bank new.bank (delete_calls c.args.slot) c.called.result.note c.delete_block-ended.result c.called.ensures.note_is call.bank_calls in record {
      served = record {
        made = record {
          effect = λ tells s stands. delete_called b old old new s c.called.result c.args.slot c.delete_block-ended.result stands c.called.ensures (λ m. call.moments m s.store stands) asked call.flags call.ok call.err;
          call = search rules;
        };
        silent = c.called.ensures.silent;
        bank_calls = asked;
      };
    }
