use Rattle.tbl_crew.proofs.EndLemmas.{nothing_watched}
use Rattle.tbl_crew.proofs.watching.unwatched.Goals as goal

pub returns : goal.returns
returns g c = record {
  history = λ o serves. rw (c.end_of.ensures, c.unplayed-core.ensures.core)
      (nothing_watched g.B.Bank g.C.Validator.verdict _ o c.args.scripts.now c.unplayed-core.result.1 c.args.watch c.args.core c.requires.watch c.requires.empty (c.unplayed-core.ensures.history o serves));
}
