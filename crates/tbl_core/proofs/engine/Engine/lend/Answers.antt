use Rattle.store_requests.proofs.Both.{both}
use Rattle.tbl_core.proofs.Lending.{lent_each}
use Rattle.tbl_core.proofs.engine.Engine.lend.Goals as goal

pub returns : goal.returns
returns g c =
    let lent = rw c.place_of-place.ensures at c.lend.ensures.lent in
    rw (← c.self.view_is) (record {
      lent = lent;
      none = c.lend.ensures.none;
      pin = both c.lend.result _ _ _ lent c.lend.ensures.within (λ lent is within. lent_each _ c.args.handle lent is within);
    })
