use Rattle.std.proofs.Common.{◌≡◌, ◌≤◌, ◌+◌, ◌*◌, ◌++◌, length, drop, count_by, is_some}
use Rattle.std.specs.List.{flat_map}
use Rattle.tbl_model.specs.Dumps.{record_of}
use Rattle.dump_requests.proofs.files.write_records.Given as goal

abbrev pub invariant-loop-row : goal.invariant-loop-row
invariant-loop-row l = record {
  all : l.out.list ++ flat_map record_of (drop l.row l.tables.rows) ≡ l.fn.out.list ++ flat_map record_of l.tables.rows;
  len : length l.out.list + 144 * count_by is_some (drop l.row l.tables.rows) ≡ length l.fn.out.list + 144 * count_by is_some l.tables.rows;
  room : l.fn.out.spare + 144 * count_by is_some (drop l.row l.tables.rows) ≤ l.out.spare + 144 * count_by is_some l.tables.rows;
}
