use Rattle.std.proofs.Common.{◌≡◌, inl, length, refl, subst, arith}
use Rattle.std.proofs.lemmas.Result.{on_err_weaker}
use Rattle.bank_mirror.specs.Pairs.{Pair}
use Rattle.bank_mirror.specs.Calls.{ReadsFirst}
use Rattle.bank_mirror.proofs.Moments.{told_moments, called_goes, first_called}
use Rattle.bank_mirror.proofs.Calling.{first_keeps}
use Rattle.bank_mirror.proofs.banks.Banks.read_first.Goals as goal

pub returns : goal.returns
returns g c =
    let a = g.A.Bank in
    let b = g.B.Bank in
    let old : Pair _ _ = record { first = c.self.inside.first; second = c.self.inside.second; past = c.self.inside.past.items } in
    let new : Pair _ _ = record { first = c.read_at-read.new.self; second = c.self.inside.second; past = c.and-past.result.items } in
    let read = c.read_at-read.ensures in
    subst (λ (was : Pair _ _). ReadsFirst a b was new c.args.at c.args.into.now c.read_at-read.new.into c.read_at-read.result) c.self.view_is (record {
      reads = record { read = read.read; kept = read.kept; done = read.done; failed = read.failed };
      other = refl;
      keeps = first_keeps a b old new read.kept (record {
        other = refl;
        moments = λ told.
            let one = told_moments a told.0 g.met.A.Bank.counts_now g.met.A.Bank.leaves_now g.met.A.Bank.leaves_only_now g.met.A.Bank.only_now in
            let two = told_moments b told.1 g.met.B.Bank.counts_now g.met.B.Bank.leaves_now g.met.B.Bank.leaves_only_now g.met.B.Bank.only_now in
            first_called a b one two old new (λ image. image ≡ g.A.Bank.now old.first) c.and-past.ensures refl (read.moments told.0);
        goes_on = called_goes a b old new c.and-past.ensures c.read_at-read.ensures.size refl (record {
          first_faults = c.read_at-read.ensures.fault_count;
          first_stops = c.read_at-read.ensures.stop_count;
          second_faults = omega arith;
          second_stops = omega arith;
        });
      });
      last = on_err_weaker c.read_at-read.result
          (λ rose. record {
            before = c.self.inside.past.items;
            was = (c.self.inside.first, c.self.inside.second);
            last = c.and-past.ensures;
            failed = inl (rose.0, (λ told. (c.args.at, length c.args.into.now, read.bank_calls told)), refl);
          })
          read.failed;
    })
