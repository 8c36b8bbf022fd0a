use Rattle.std.proofs.Common.{◌≡◌, inr, length, refl, subst, arith}
use Rattle.std.proofs.lemmas.Result.{on_err_weaker}
use Rattle.bank_mirror.specs.Pairs.{Pair}
use Rattle.bank_mirror.specs.Calls.{ReadsSecond}
use Rattle.bank_mirror.proofs.Moments.{told_moments, called_goes, second_called}
use Rattle.bank_mirror.proofs.Calling.{second_keeps}
use Rattle.bank_mirror.proofs.banks.Banks.read_second.Goals as goal

pub returns : goal.returns
returns g c =
    let a = g.A.Bank in
    let b = g.B.Bank in
    let old : Pair _ _ = record { first = c.self.inside.first; second = c.self.inside.second; past = c.self.inside.past.items } in
    let new : Pair _ _ = record { first = c.self.inside.first; second = c.read_at-read.new.self; past = c.and-past.result.items } in
    let read = c.read_at-read.ensures in
    subst (λ (was : Pair _ _). ReadsSecond a b was new c.args.at c.args.into.now c.read_at-read.new.into c.read_at-read.result) c.self.view_is (record {
      larger = c.self.invariant;
      reads = record { read = read.read; kept = read.kept; done = read.done; failed = read.failed };
      other = refl;
      keeps = second_keeps a b old new read.kept (record {
        other = refl;
        moments = λ told.
            let one = told_moments a told.0 g.met.A.Bank.counts_now g.met.A.Bank.leaves_now g.met.A.Bank.leaves_only_now g.met.A.Bank.only_now in
            let two = told_moments b told.1 g.met.B.Bank.counts_now g.met.B.Bank.leaves_now g.met.B.Bank.leaves_only_now g.met.B.Bank.only_now in
            second_called a b one two old new (λ image. image ≡ g.B.Bank.now old.second) c.and-past.ensures refl (read.moments told.1);
        goes_on = called_goes a b old new c.and-past.ensures refl c.read_at-read.ensures.size (record {
          first_faults = omega arith;
          first_stops = omega arith;
          second_faults = c.read_at-read.ensures.fault_count;
          second_stops = c.read_at-read.ensures.stop_count;
        });
      });
      last = on_err_weaker c.read_at-read.result
          (λ rose. record {
            before = c.self.inside.past.items;
            was = (c.self.inside.first, c.self.inside.second);
            last = c.and-past.ensures;
            failed = inr (rose.0, (λ told. (c.args.at, length c.args.into.now, read.bank_calls told)), refl);
          })
          read.failed;
    })
