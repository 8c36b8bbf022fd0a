use Rattle.std.proofs.Common.{◌≡◌, ◌+◌, ◌≤◌, ◌++◌, length, drop}
use Rattle.desk.specs.Rows.{rows_in}
use Rattle.desk.proofs.users.put_rows.Given as goal

abbrev pub invariant-loop-place : goal.invariant-loop-place
invariant-loop-place l = record {
  all : l.bytes.list ++ rows_in (drop l.place-index l.places) ≡ l.fn.bytes.list ++ rows_in l.places;
  room : l.fn.bytes.spare ≤ l.bytes.spare + l.place-index;
  len : length l.bytes.list ≤ length l.fn.bytes.list + l.place-index;
}
