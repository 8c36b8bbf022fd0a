use Rattle.std.proofs.Common.{sym, subst}
use Rattle.bank_mirror.specs.CallsInUse.{WritesInUse, WritesStill}
use Rattle.bank_mirror.proofs.banks.Banks.write.Goals as goal

pub returns-in-Both : goal.returns-in-Both
returns-in-Both g c =
    subst (λ in_use. WritesInUse g.A.Bank g.B.Bank in_use c.args.self.now c.write_both.new.self c.args.at c.args.bytes.now c.write_both.result) (sym c.in-Both.is) c.write_both.ensures

pub returns-in-FirstOut : goal.returns-in-FirstOut
returns-in-FirstOut g c =
    subst (λ in_use. WritesStill g.A.Bank g.B.Bank in_use c.args.self.now c.write_alone.new.self c.args.at c.args.bytes.now c.write_alone.result) (sym c.in-FirstOut.is) c.write_alone.ensures

pub returns-in-SecondOut : goal.returns-in-SecondOut
returns-in-SecondOut g c =
    let call = c.write_alone-in-SecondOut in
    subst (λ in_use. WritesStill g.A.Bank g.B.Bank in_use c.args.self.now call.new.self c.args.at c.args.bytes.now call.result) (sym c.in-SecondOut.is) call.ensures

pub returns-in-Unread : goal.returns-in-Unread
returns-in-Unread g c =
    subst (λ in_use. WritesInUse g.A.Bank g.B.Bank in_use c.args.self.now c.write_unread.new.self c.args.at c.args.bytes.now c.write_unread.result) (sym c.in-Unread.is) c.write_unread.ensures
