-- The opening is there, and the records of the rounds before this one; each drew three times.
use Rattle.std.proofs.Common.{◌≡◌, ◌*◌, ◌++◌, map}
use Rattle.tbl_drill.specs.Generator.{number}
use Rattle.tbl_drill.specs.Drill.{opening, roomless, rounds_of}
use Rattle.tbl_drill.proofs.scripted.drill_session.Given as goal

abbrev pub invariant-loop-round : goal.invariant-loop-round
invariant-loop-round l = record {
  list : map roomless l.script ≡ opening ++ rounds_of l.seed l.round;
  at : l.generator.number ≡ number l.seed (3 * l.round);
}
