use Rattle.std.proofs.Common.{rules, arith}
use Rattle.std.proofs.lemmas.Result.{on_ok_weaker}
use Rattle.tbl_outside.proofs.Moments.{leaves_among}
use Rattle.cds_store.proofs.Emptying.{cleared, shut_stays}
use Rattle.cds_store.proofs.DirectoryEntries.{shut_is_emptied}
use Rattle.cds_store.proofs.clearing.open_live.Goals as goal

pub returns : goal.returns
returns g c =
    let b = g.B.Bank in
    record {
      keeps = search rules;
      changes = record {
        done =
            on_ok_weaker c.write.result
            (λ done told.
            cleared (b.now c.args.bank.now) (b.now c.write.new.bank) (omega (arith, c.requires.room, g.met.B.Bank.whole c.args.bank.now told)) (done told) (c.write.ensures.writes.torn told) (c.requires.mark told) (c.requires.shut told))
            c.write.ensures.writes.done;
        left = λ told. shut_is_emptied (b.now c.write.new.bank) (shut_stays (b.now c.args.bank.now) (b.now c.write.new.bank) (c.write.ensures.writes.torn told) (c.requires.shut told));
        moments = λ told.
            leaves_among (c.write.ensures.writes.moments told)
            (λ image torn. shut_is_emptied image (shut_stays (b.now c.args.bank.now) image torn (c.requires.shut (g.met.B.Bank.tells_both told))));
        bank_calls = search rules;
      };
    }
