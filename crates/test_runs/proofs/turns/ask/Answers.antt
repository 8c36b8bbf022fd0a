use Rattle.std.proofs.Common.{length, sym, ap, subst, ◌∙◌}
use Rattle.tbl_crew.specs.Scripts.{request_count, AllFit}
use Rattle.tbl_crew.proofs.PushLemmas.{pushed_actors, pushed_count, pushed_fit}
use Rattle.test_runs.proofs.turns.ask.Goals as goal

pub returns-clause-actors : goal.returns-clause-actors
returns-clause-actors c = ap length c.in_ok-push.ensures.ok ∙ pushed_actors c.args.scripts.now (record { actor = c.args.actor; request = c.args.request }) c.requires.actors c.requires.may_ask

pub returns-clause-fit : goal.returns-clause-fit
returns-clause-fit c = subst AllFit (sym c.in_ok-push.ensures.ok) (pushed_fit c.args.scripts.now (record { actor = c.args.actor; request = c.args.request }) c.requires.actors c.requires.may_ask c.requires.fit)

pub returns-clause-count : goal.returns-clause-count
returns-clause-count c = ap request_count c.in_ok-push.ensures.ok ∙ pushed_count c.args.scripts.now (record { actor = c.args.actor; request = c.args.request }) c.requires.actors c.requires.may_ask
