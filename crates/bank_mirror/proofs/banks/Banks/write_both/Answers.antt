use Rattle.std.proofs.Common.{sym, subst}
use Rattle.bank_mirror.specs.declared.in_use.InUse.TheVariants.{Both}
use Rattle.bank_mirror.specs.CallsInUse.{WritesInUse}
use Rattle.bank_mirror.proofs.Writing.{first_done, first_failed, first_stopped}
use Rattle.bank_mirror.proofs.banks.Banks.write_both.Goals as goal

pub returns-in-Done : goal.returns-in-Done
returns-in-Done g c =
    subst (WritesInUse g.A.Bank g.B.Bank Both c.args.self.now c.write_second.new.self c.args.at c.args.bytes.now) (sym c.ended_by.ensures)
    (first_done g.A.Bank g.B.Bank (λ told. (g.met.A.Bank.tells_both told.0, g.met.B.Bank.tells_both told.1)) c.args.self.now c.write_first.new.self c.args.at c.args.bytes.now c.requires g.met.A.Bank.whole g.met.B.Bank.whole c.in-Done.ensures c.write_second.new.self c.write_second.result c.write_second.ensures)

pub returns-in-Failed : goal.returns-in-Failed
returns-in-Failed g c =
    first_failed g.A.Bank g.B.Bank (λ told. (g.met.A.Bank.tells_both told.0, g.met.B.Bank.tells_both told.1)) c.args.self.now c.write_first.new.self c.args.at c.args.bytes.now c.requires c.in-Failed.ensures c.write_marked.new.self c.write_marked.result c.write_marked.ensures

pub returns-in-Stopped : goal.returns-in-Stopped
returns-in-Stopped g c =
    first_stopped g.A.Bank g.B.Bank (λ told. (g.met.A.Bank.tells_both told.0, g.met.B.Bank.tells_both told.1)) c.args.self.now c.write_first.new.self c.args.at c.args.bytes.now c.requires c.in-Stopped.ensures
