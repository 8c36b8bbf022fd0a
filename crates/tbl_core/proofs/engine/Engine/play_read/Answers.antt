use Rattle.tbl_core.proofs.Lending.{slice_is}
use Rattle.tbl_core.proofs.Stepping.{all_steps, still_live}
use Rattle.tbl_core.proofs.Steps.{on_played}
use Rattle.tbl_core.proofs.engine.Engine.play_read.Goals as goal

pub returns : goal.returns
returns g c =
    let b = g.B.Bank in
    let played = c.play_read.ensures.played in
    rw (← c.self.view_is) (record {
      steps = on_played c.play_read.result (λ p. all_steps b g.C.Validator g.met.B.Bank.tells_both g.met.B.Bank.leaves_now g.met.B.Bank.counts_now _ _ _ _ _ c.play_read.result p) played.plays;
      lent = c.play_read.ensures.lent;
      live = still_live b g.C.Validator _ _ _ _ _ c.play_read.result played.plays;
      err = played.err;
    })

pub play_read-requires-clause-lent : goal.play_read-requires-clause-lent
play_read-requires-clause-lent g c same = slice_is g.C.Validator _ c.args.pin.now c.args.entry.now.request c.args.slice.list c.self.invariant (rw (← c.self.view_is) at c.requires.pin) same c.requires.slice
