use Rattle.std.proofs.Common.{ap, ◌∙◌, length}
use Rattle.tbl_crew.proofs.HistoryLemmas.{one_history}
use Rattle.tbl_crew.specs.Scripts.{script_of}
use Rattle.tbl_crew.proofs.workers.play_all.Goals as goal

pub play_beside-requires-clause-counted : goal.play_beside-requires-clause-counted
play_beside-requires-clause-counted g c lifetimes outlive actor within = ap (λ h. length (script_of h.left actor)) c.in-Ok.ensures.first ∙ c.requires.counted actor within

pub returns-in-Ok : goal.returns-in-Ok
returns-in-Ok g c = record {
  history = λ o scripts from.
      let leads = c.play_beside.ensures.leads o scripts (rw c.in-Ok.ensures.first from) in
      rw (c.end.ensures.fault, c.end.ensures.core) (one_history g.B.Bank g.C.Validator.verdict o scripts c.play_beside.result c.end.ensures.goes_on c.play_beside.ensures.ended leads);
}

pub returns-in-Err : goal.returns-in-Err
returns-in-Err g c = record {
  history = λ o scripts from.
      let leads = c.play_rest.ensures.leads o scripts (rw c.in-Err.ensures.err from) in
      rw (c.end-in-Err.ensures.fault, c.end-in-Err.ensures.core) (one_history g.B.Bank g.C.Validator.verdict o scripts c.play_rest.new.crew c.end-in-Err.ensures.goes_on c.play_rest.ensures.ended leads);
}
