-- The seat is the application's still.
use Rattle.tbl_live.specs.Seats.{IsAppOf, IsSame}
use Rattle.test_live.proofs.reads.read_all.Given as goal

abbrev pub invariant-reads : goal.invariant-reads
invariant-reads g l = record {
  app : IsAppOf l.service.of l.seat;
  same : IsSame l.fn.seat l.seat;
}
