use Rattle.std.proofs.Common.{rules, sym, ◌∙◌}
use Rattle.tbl_outside.proofs.Moments.{leaves_among}
use Rattle.cds_store.proofs.Emptying.{first_torn}
use Rattle.cds_store.proofs.clearing.close_live.Goals as goal

pub returns-then-first-eq-LIVE : goal.returns-then-first-eq-LIVE
returns-then-first-eq-LIVE g c =
    let b = g.B.Bank in
    record {
      keeps = search rules;
      changes = record {
        done = search rules;
        left = λ told. first_torn (b.now c.args.bank.now) (b.now c.write.new.bank) (sym (c.requires.read told) ∙ c.if-first-eq-LIVE.true) (c.write.ensures.writes.torn told);
        moments = λ told.
            leaves_among (c.write.ensures.writes.moments told)
            (λ image torn. first_torn (b.now c.args.bank.now) image (sym (c.requires.read (g.met.B.Bank.tells_both told)) ∙ c.if-first-eq-LIVE.true) torn);
        bank_calls = search rules;
      };
    }
