use Rattle.std.proofs.Common.{ap, ◌∙◌, length}
use Rattle.tbl_crew.specs.Scripts.{script_of}
use Rattle.tbl_crew.proofs.watching.watch_all.Goals as goal

pub watch_beside-crew-requires-clause-counted : goal.watch_beside-crew-requires-clause-counted
watch_beside-crew-requires-clause-counted g c lifetimes outlive actor within = ap (λ h. length (script_of h.left actor)) c.in-Ok.ensures.first ∙ c.requires.counted actor within

pub watch_beside-crew-requires-clause-empty : goal.watch_beside-crew-requires-clause-empty
watch_beside-crew-requires-clause-empty g c lifetimes outlive = ap (λ h. h.core.entries) c.in-Ok.ensures.first ∙ c.requires.empty

pub watch_rest-looked-requires-clause-empty : goal.watch_rest-looked-requires-clause-empty
watch_rest-looked-requires-clause-empty g c = ap (λ h. h.core.entries) c.in-Err.ensures.err ∙ c.requires.empty

pub returns-in-Ok : goal.returns-in-Ok
returns-in-Ok g c = record {
  history = λ o scripts from. c.end_watched.ensures.history _ c.watch_beside-crew.ensures.watches o scripts (rw c.in-Ok.ensures.first from);
}

pub returns-in-Err : goal.returns-in-Err
returns-in-Err g c = record {
  history = λ o scripts from. c.end_watched-in-Err.ensures.history _ c.watch_rest-looked.ensures.watches o scripts (rw c.in-Err.ensures.err from);
}
