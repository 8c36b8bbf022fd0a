use Rattle.std.proofs.Common.{rules, length, arith}
use Rattle.std.proofs.lemmas.Result.{on_ok_weaker}
use Rattle.tbl_outside.proofs.Moments.{leaves_among}
use Rattle.cds_store.proofs.Emptying.{dead_emptied, still_dead, zeros_shut}
use Rattle.cds_store.proofs.clearing.write_entries.Goals as goal

pub returns-clause-step : goal.returns-clause-step
returns-clause-step g c =
    let b = g.B.Bank in
    record {
      keeps = search rules;
      changes = record {
        done =
            on_ok_weaker c.write.result
            (λ done told. zeros_shut (b.now c.args.bank.now) (b.now c.write.new.bank) c.args.zeros.now (omega (arith, c.requires.room, g.met.B.Bank.whole c.args.bank.now told)) c.requires.len c.requires.zeros (done told))
            c.write.ensures.writes.done;
        left = λ told. dead_emptied (b.now c.write.new.bank) (still_dead 16 (length c.args.zeros.now) (b.now c.args.bank.now) (b.now c.write.new.bank) (omega arith) (c.write.ensures.writes.torn told) (c.requires.dead told));
        moments = λ told.
            leaves_among (c.write.ensures.writes.moments told)
            (λ image torn. dead_emptied image (still_dead 16 (length c.args.zeros.now) (b.now c.args.bank.now) image (omega arith) torn (c.requires.dead (g.met.B.Bank.tells_both told))));
        bank_calls = search rules;
      };
    }
