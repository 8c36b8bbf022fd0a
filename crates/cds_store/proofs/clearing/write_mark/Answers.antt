use Rattle.std.proofs.Common.{rules, arith}
use Rattle.tbl_outside.proofs.Moments.{leaves_among}
use Rattle.cds_store.proofs.Emptying.{dead_emptied, still_dead}
use Rattle.cds_store.proofs.clearing.write_mark.Goals as goal

pub returns-clause-step : goal.returns-clause-step
returns-clause-step g c =
    let b = g.B.Bank in
    record {
      keeps = search rules;
      changes = record {
        done = search rules;
        left = λ told. dead_emptied (b.now c.write.new.bank) (still_dead 1 15 (b.now c.args.bank.now) (b.now c.write.new.bank) (omega arith) (c.write.ensures.writes.torn told) (c.requires.dead told));
        moments = λ told.
            leaves_among (c.write.ensures.writes.moments told)
            (λ image torn. dead_emptied image (still_dead 1 15 (b.now c.args.bank.now) image (omega arith) torn (c.requires.dead (g.met.B.Bank.tells_both told))));
        bank_calls = search rules;
      };
    }
