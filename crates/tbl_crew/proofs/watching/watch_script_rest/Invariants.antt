use Rattle.std.proofs.Common.{length}
use Rattle.table_watch.specs.Watching.{watcher}
use Rattle.tbl_crew.specs.CrewView.{CrewView}
use Rattle.tbl_crew.specs.Moves.{PlaysRest}
use Rattle.tbl_crew.specs.Scripts.{script_of}
use Rattle.tbl_crew.specs.Watching.{HasWatched}
use Rattle.tbl_crew.proofs.watching.watch_script_rest.Given as goal

abbrev pub invariant-requests : goal.invariant-requests
invariant-requests g l = record {
  rest : PlaysRest g.B.Bank g.C.Validator.verdict l.fn.crew l.crew;
  watched : (first : CrewView g.row.B.Denot g.row.C.Denot) → HasWatched g.B.Bank g.C.Validator.verdict first l.fn.watch l.fn.crew → HasWatched g.B.Bank g.C.Validator.verdict first l.watch l.crew;
}

abbrev pub decreases-requests : goal.decreases-requests
decreases-requests g l = length (script_of l.crew.left watcher)
