use Rattle.std.proofs.Common.{sym}
use Rattle.tbl_crew.proofs.EndLemmas.{is_watched}
use Rattle.tbl_crew.proofs.watching.end_watched.Goals as goal

pub returns : goal.returns
returns g c = record {
  history = λ first all o scripts from. rw (c.end_of.ensures, c.end-core.ensures.core)
      (is_watched g.B.Bank g.C.Validator.verdict first c.args.crew c.args.watch c.end-core.result.1 c.args.looked (sym c.end-core.ensures.fault) c.end-core.ensures.goes_on all o scripts from);
}
