use Rattle.std.proofs.Common.{◌≡◌, ◌+◌, ◌≤◌, ◌++◌, length, false}
use Rattle.std.specs.List.{AllByRecursion}
use Rattle.tbl_kinds.specs.Records.{IsRecord, record_limit}
use Rattle.tbl_kinds.specs.Transcript.{pairs_of}
use Rattle.tbl_history.specs.Serving.{Continues}
use Rattle.tbl_top.proofs.drilling.play_script.Given as goal

abbrev pub invariant-records : goal.invariant-records
invariant-records g l = record {
  plays : pairs_of l.fn.core.entries ++ l.fn.script ≡ pairs_of l.core.entries ++ l.script;
  records : AllByRecursion IsRecord l.script;
  few : length l.core.entries + length l.script ≤ record_limit;
  continues : Continues g.B.Bank g.C.Validator.verdict l.fn.core l.core;
  live : l.core.state.ended ≡ false;
}

abbrev pub decreases-records : goal.decreases-records
decreases-records g l = length l.script
