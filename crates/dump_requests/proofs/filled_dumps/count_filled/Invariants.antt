use Rattle.std.proofs.Common.{◌≡◌, ◌+◌, ◌≤◌, drop}
use Rattle.dump_requests.specs.Housekeeping.{filled_count}
use Rattle.desk.specs.Rows.{rows_in}
use Rattle.dump_requests.proofs.filled_dumps.count_filled.Given as goal

abbrev pub invariant-loop-place : goal.invariant-loop-place
invariant-loop-place l = record {
  count : l.count + filled_count l.tables (rows_in (drop l.place-index l.places)) ≡ filled_count l.tables (rows_in l.places);
  few : l.count ≤ l.place-index;
}
