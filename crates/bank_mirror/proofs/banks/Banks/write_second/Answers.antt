use Rattle.std.proofs.Common.{length, refl, subst, arith}
use Rattle.tbl_outside.specs.Bank.{Torn}
use Rattle.bank_mirror.specs.Pairs.{Pair}
use Rattle.bank_mirror.specs.Calls.{WritesSecond}
use Rattle.bank_mirror.proofs.Moments.{told_moments, called_goes, second_called}
use Rattle.bank_mirror.proofs.banks.Banks.write_second.Goals as goal

pub returns : goal.returns
returns g c =
    let a = g.A.Bank in
    let b = g.B.Bank in
    let old : Pair _ _ = record { first = c.self.inside.first; second = c.self.inside.second; past = c.self.inside.past.items } in
    let new : Pair _ _ = record { first = c.self.inside.first; second = c.write_at-written.new.self; past = c.and-past.result.items } in
    let write = c.write_at-written.ensures in
    subst (λ (was : Pair _ _). WritesSecond a b was new c.args.at c.args.bytes.now c.write_at-written.result) c.self.view_is (record {
      larger = c.self.invariant;
      writes = record { done = write.done; torn = write.torn; counted = write.counted };
      calls = record {
        other = refl;
        moments = λ told.
            let one = told_moments a told.0 g.met.A.Bank.counts_now g.met.A.Bank.leaves_now g.met.A.Bank.leaves_only_now g.met.A.Bank.only_now in
            let two = told_moments b told.1 g.met.B.Bank.counts_now g.met.B.Bank.leaves_now g.met.B.Bank.leaves_only_now g.met.B.Bank.only_now in
            second_called a b one two old new (Torn c.args.at (length c.args.bytes.now) (g.B.Bank.now old.second)) c.and-past.ensures refl (write.moments told.1);
        goes_on = called_goes a b old new c.and-past.ensures refl c.write_at-written.ensures.size (record {
          first_faults = omega arith;
          first_stops = omega arith;
          second_faults = c.write_at-written.ensures.fault_count;
          second_stops = c.write_at-written.ensures.stop_count;
        });
      };
    })
