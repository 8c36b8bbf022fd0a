use Rattle.std.proofs.Common.{ap, sym, ◌∙◌, length}
use Rattle.tbl_crew.proofs.ScriptLemmas.{all_counted}
use Rattle.tbl_crew.specs.Scripts.{script_of}
use Rattle.tbl_crew.proofs.workers.crew.Goals as goal

pub play_all-requires-clause-counted : goal.play_all-requires-clause-counted
play_all-requires-clause-counted g c lifetimes outlive actor within =
    ap (λ s. length (script_of s actor)) c.in-Ok.ensures.left
    ∙ sym (c.counts-counts.ensures actor within ∙ all_counted c.args.scripts actor c.requires.few)

pub returns-in-Ok : goal.returns-in-Ok
returns-in-Ok g c = record { history = λ o serves. c.play_all.ensures.history o c.args.scripts (c.in-Ok.ensures.stands o serves) }

pub returns-in-Err : goal.returns-in-Err
returns-in-Err g c = record {
  history = λ o serves. rw (← c.in-Err.ensures.err.1, c.unplayed.ensures.core) (c.unplayed.ensures.history o (rw c.in-Err.ensures.err.0 serves));
}
