use Rattle.std.proofs.Common.{◌≢◌, length}
use Rattle.table_watch.specs.Watching.{watcher}
use Rattle.tbl_crew.specs.Watching.{StaysWatched}
use Rattle.tbl_crew.specs.Moves.{PlaysRest}
use Rattle.tbl_crew.specs.Scripts.{script_of}
use Rattle.tbl_crew.proofs.rest.play_script_rest.Given as goal

abbrev pub invariant-requests : goal.invariant-requests
invariant-requests g l = record {
  rest : PlaysRest g.B.Bank g.C.Validator.verdict l.fn.crew l.crew;
  watched : l.actor ≢ watcher → StaysWatched g.B.Bank g.C.Validator.verdict l.fn.crew l.crew;
}

abbrev pub decreases-requests : goal.decreases-requests
decreases-requests g l = length (script_of l.crew.left l.actor)
