use Rattle.std.proofs.Common.{inl, inr, refl}
use Rattle.tbl_outside.specs.declared.bank.Written.TheVariants.{Done, Failed, Stopped}
use Rattle.bank_mirror.specs.Pairs.{AsWas, front_of}
use Rattle.bank_mirror.proofs.Calling.{kept_front, keeps_holds}
use Rattle.bank_mirror.proofs.GoodOne.{fresh_by, stale_by}
use Rattle.bank_mirror.proofs.Opened.{mark_set}
use Rattle.bank_mirror.proofs.banks.Banks.set_mark.Goals as goal

pub returns-in-Done : goal.returns-in-Done
returns-in-Done g c =
    mark_set g.A.Bank g.B.Bank (λ told. (g.met.A.Bank.tells_both told.0, g.met.B.Bank.tells_both told.1)) c.args.self.now c.good_one.new.self c.write_mark.new.self Done c.good_one.ensures.keeps c.good_one.ensures.other (fresh_by g.A.Bank g.B.Bank _ c.good_one.new.self c.in-Ok-First.field-0-is c.in-Ok-First.ensures.good) c.in-Done.ensures

pub returns-in-Failed : goal.returns-in-Failed
returns-in-Failed g c =
    mark_set g.A.Bank g.B.Bank (λ told. (g.met.A.Bank.tells_both told.0, g.met.B.Bank.tells_both told.1)) c.args.self.now c.good_one.new.self c.write_mark.new.self Failed c.good_one.ensures.keeps c.good_one.ensures.other (fresh_by g.A.Bank g.B.Bank _ c.good_one.new.self c.in-Ok-First.field-0-is c.in-Ok-First.ensures.good) c.in-Failed.ensures

pub returns-in-Stopped : goal.returns-in-Stopped
returns-in-Stopped g c =
    mark_set g.A.Bank g.B.Bank (λ told. (g.met.A.Bank.tells_both told.0, g.met.B.Bank.tells_both told.1)) c.args.self.now c.good_one.new.self c.write_mark.new.self Stopped c.good_one.ensures.keeps c.good_one.ensures.other (fresh_by g.A.Bank g.B.Bank _ c.good_one.new.self c.in-Ok-First.field-0-is c.in-Ok-First.ensures.good) c.in-Stopped.ensures

pub returns-in-Ok-Second : goal.returns-in-Ok-Second
returns-in-Ok-Second g c =
    let old = c.args.self.now in
    record {
      marked = stale_by g.A.Bank g.B.Bank _ c.good_one.new.self c.in-Ok-Second.field-0-is c.in-Ok-Second.ensures.good;
      front = kept_front g.A.Bank g.B.Bank old c.good_one.new.self c.good_one.ensures.keeps;
      other = c.good_one.ensures.other;
      counted = tt;
      holds = keeps_holds g.A.Bank g.B.Bank old c.good_one.new.self (AsWas g.A.Bank g.B.Bank old.first old.second (front_of g.A.Bank g.B.Bank old)) (inl refl) c.good_one.ensures.keeps;
    }

pub returns-in-Err : goal.returns-in-Err
returns-in-Err g c =
    let old = c.args.self.now in
    record {
      marked = tt;
      front = kept_front g.A.Bank g.B.Bank old c.good_one.new.self c.good_one.ensures.keeps;
      other = c.good_one.ensures.other;
      counted = inr c.in-Err.ensures.failed;
      holds = keeps_holds g.A.Bank g.B.Bank old c.good_one.new.self (AsWas g.A.Bank g.B.Bank old.first old.second (front_of g.A.Bank g.B.Bank old)) (inl refl) c.good_one.ensures.keeps;
    }
