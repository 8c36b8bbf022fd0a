use Rattle.std.proofs.Common.{rules}
use Rattle.tbl_core.proofs.Starting.{stays_shown}
use Rattle.tbl_top.proofs.crewing.begin_crew.Goals as goal

-- out of memory before the service began, nothing was asked of the bank
pub returns-in-Err-clause-err : goal.returns-in-Err-clause-err
returns-in-Err-clause-err g c = let b = g.B.Bank in record {
  crash = stays_shown b g.met.B.Bank.leaves_only_now g.met.B.Bank.only_now c.args.service.bank;
  counted = search rules;
  room = c.requires.may_start.room;
}
