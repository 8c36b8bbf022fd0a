use Rattle.tbl_core.specs.Service.{works_view}
use Rattle.tbl_core.proofs.Questions.{other_kit}
use Rattle.tbl_core.proofs.engine.Engine.hand.Goals as goal

pub returns-clause-on : goal.returns-clause-on
returns-clause-on g c = rw (← c.self.view_is) (other_kit (works_view c.self.inside.works) c.hand.new.self c.hand.ensures.owned g.B.Bank)
