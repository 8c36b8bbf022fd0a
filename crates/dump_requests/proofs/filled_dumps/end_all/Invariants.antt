use Rattle.std.proofs.Common.{◌≡◌, drop}
use Rattle.std.specs.List.{fold}
use Rattle.dump_requests.specs.Housekeeping.{then_finish}
use Rattle.desk.specs.Rows.{rows_in}
use Rattle.dump_requests.proofs.filled_dumps.end_all.Given as goal

abbrev pub invariant-loop-place : goal.invariant-loop-place
invariant-loop-place l = fold then_finish l.tables (rows_in (drop l.place-index l.places)) ≡ fold then_finish l.fn.tables (rows_in l.places)
