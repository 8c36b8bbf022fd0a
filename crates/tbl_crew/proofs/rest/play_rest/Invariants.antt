use Rattle.std.proofs.Common.{◌≤◌}
use Rattle.table_watch.specs.Watching.{watcher}
use Rattle.tbl_crew.specs.Watching.{StaysWatched}
use Rattle.tbl_crew.specs.Leading.{LeadsOn}
use Rattle.tbl_crew.specs.Moves.{AllEnded}
use Rattle.tbl_crew.proofs.rest.play_rest.Given as goal

abbrev pub invariant-actors : goal.invariant-actors
invariant-actors g l = record {
  leads : LeadsOn g.B.Bank g.C.Validator.verdict l.fn.crew l.crew;
  ended : AllEnded l.actor l.crew;
  watched : l.count ≤ watcher → StaysWatched g.B.Bank g.C.Validator.verdict l.fn.crew l.crew;
}
