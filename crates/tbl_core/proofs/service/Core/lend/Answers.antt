use Rattle.tbl_core.proofs.Lending.{lent_in}
use Rattle.tbl_core.proofs.service.Core.lend.Goals as goal

pub returns : goal.returns
returns g c = rw (← c.self.view_is) (record {
  lent = c.lend.ensures.lent;
  none = c.lend.ensures.none;
  pin = lent_in c.self.inside.engine c.self.inside.entries.items c.lend.result c.self.invariant.after c.lend.ensures.pin;
})
