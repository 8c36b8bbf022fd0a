use Rattle.tbl_core.proofs.Stepping.{all_steps, still_live}
use Rattle.tbl_core.proofs.Steps.{on_played}
use Rattle.tbl_core.proofs.engine.Engine.play.Goals as goal

pub returns : goal.returns
returns g c =
    let b = g.B.Bank in
    rw (← c.self.view_is) (record {
      steps = on_played c.play.result (λ p. all_steps b g.C.Validator g.met.B.Bank.tells_both g.met.B.Bank.leaves_now g.met.B.Bank.counts_now _ _ _ _ _ c.play.result p) c.play.ensures.plays;
      live = still_live b g.C.Validator _ _ _ _ _ c.play.result c.play.ensures.plays;
      err = c.play.ensures.err;
    })
