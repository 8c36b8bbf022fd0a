use Rattle.std.proofs.Common.{sym, subst}
use Rattle.tbl_core.specs.Asking.{StandsOn}
use Rattle.tbl_core.proofs.Questions.{recount_on}
use Rattle.tbl_core.proofs.engine.Engine.make_room.Goals as goal

pub returns-clause-on : goal.returns-clause-on
returns-clause-on g c = subst (StandsOn g.B.Bank c.args.self.now) (sym c.recount.ensures) (recount_on g.B.Bank c.args.self.now)
