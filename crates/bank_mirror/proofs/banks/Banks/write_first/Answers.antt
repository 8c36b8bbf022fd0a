use Rattle.std.proofs.Common.{length, refl, subst, arith}
use Rattle.tbl_outside.specs.Bank.{Torn}
use Rattle.bank_mirror.specs.Pairs.{Pair}
use Rattle.bank_mirror.specs.Calls.{WritesFirst}
use Rattle.bank_mirror.proofs.Moments.{told_moments, called_goes, first_called}
use Rattle.bank_mirror.proofs.banks.Banks.write_first.Goals as goal

pub returns : goal.returns
returns g c =
    let a = g.A.Bank in
    let b = g.B.Bank in
    let old : Pair _ _ = record { first = c.self.inside.first; second = c.self.inside.second; past = c.self.inside.past.items } in
    let new : Pair _ _ = record { first = c.write_at-written.new.self; second = c.self.inside.second; past = c.and-past.result.items } in
    let write = c.write_at-written.ensures in
    subst (λ (was : Pair _ _). WritesFirst a b was new c.args.at c.args.bytes.now c.write_at-written.result) c.self.view_is (record {
      writes = record { done = write.done; torn = write.torn; counted = write.counted };
      calls = record {
        other = refl;
        moments = λ told.
            let one = told_moments a told.0 g.met.A.Bank.counts_now g.met.A.Bank.leaves_now g.met.A.Bank.leaves_only_now g.met.A.Bank.only_now in
            let two = told_moments b told.1 g.met.B.Bank.counts_now g.met.B.Bank.leaves_now g.met.B.Bank.leaves_only_now g.met.B.Bank.only_now in
            first_called a b one two old new (Torn c.args.at (length c.args.bytes.now) (g.A.Bank.now old.first)) c.and-past.ensures refl (write.moments told.0);
        goes_on = called_goes a b old new c.and-past.ensures c.write_at-written.ensures.size refl (record {
          first_faults = c.write_at-written.ensures.fault_count;
          first_stops = c.write_at-written.ensures.stop_count;
          second_faults = omega arith;
          second_stops = omega arith;
        });
      };
      once = write.bank_calls;
    })
