use Rattle.std.proofs.Common.{◌≡◌, inr, refl, sym}
use Rattle.bank_mirror.specs.Pairs.{bytes_of}
use Rattle.bank_mirror.proofs.Calling.{same_mark, keeps_holds}
use Rattle.bank_mirror.proofs.Opened.{ends_since}
use Rattle.bank_mirror.proofs.banks.Banks.agree.Goals as goal

pub returns-in-Ok : goal.returns-in-Ok
returns-in-Ok g c =
    let a = g.A.Bank in
    let b = g.B.Bank in
    let old = c.args.self.now in
    let keeps = c.good_one.ensures.keeps in
    ends_since a b (λ told. (g.met.A.Bank.tells_both told.0, g.met.B.Bank.tells_both told.1)) old c.good_one.new.self c.copy_good.new.self c.copy_good.result (keeps_holds a b old c.good_one.new.self (λ image. image ≡ bytes_of a b old) refl keeps)
    (λ told. sym (same_mark a b old c.good_one.new.self keeps told)) c.copy_good.ensures

pub returns-in-Err : goal.returns-in-Err
returns-in-Err g c = record {
  opened = tt;
  failed = record { counted = inr c.in-Err.ensures.failed; last = λ is. c.in-Err.ensures.last };
  holds = keeps_holds g.A.Bank g.B.Bank c.args.self.now c.good_one.new.self (λ image. image ≡ bytes_of g.A.Bank g.B.Bank c.args.self.now) refl c.good_one.ensures.keeps;
}
