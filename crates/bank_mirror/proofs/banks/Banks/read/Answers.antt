use Rattle.std.proofs.Common.{sym, subst}
use Rattle.bank_mirror.specs.CallsInUse.{ReadsInUse, ReadsStill}
use Rattle.bank_mirror.proofs.banks.Banks.read.Goals as goal

pub returns-in-Both : goal.returns-in-Both
returns-in-Both g c =
    subst (λ in_use. ReadsStill g.A.Bank g.B.Bank in_use c.args.self.now c.read_either.new.self c.args.at c.args.into.now c.read_either.new.into c.read_either.result) (sym c.in-Both.is) c.read_either.ensures

pub returns-in-FirstOut : goal.returns-in-FirstOut
returns-in-FirstOut g c =
    subst (λ in_use. ReadsStill g.A.Bank g.B.Bank in_use c.args.self.now c.read_alone.new.self c.args.at c.args.into.now c.read_alone.new.into c.read_alone.result) (sym c.in-FirstOut.is) c.read_alone.ensures

pub returns-in-SecondOut : goal.returns-in-SecondOut
returns-in-SecondOut g c =
    let call = c.read_alone-in-SecondOut in
    subst (λ in_use. ReadsStill g.A.Bank g.B.Bank in_use c.args.self.now call.new.self c.args.at c.args.into.now call.new.into call.result) (sym c.in-SecondOut.is) call.ensures

pub returns-in-Unread : goal.returns-in-Unread
returns-in-Unread g c =
    subst (λ in_use. ReadsInUse g.A.Bank g.B.Bank in_use c.args.self.now c.read_unread.new.self c.args.at c.args.into.now c.read_unread.new.into c.read_unread.result) (sym c.in-Unread.is) c.read_unread.ensures
