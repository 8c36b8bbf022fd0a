-- The seat is the application's still.
use Rattle.tbl_live.specs.Seats.{IsAppOf, IsSame}
use Rattle.live_example.proofs.applications.read_often.Given as goal

abbrev pub invariant-reads : goal.invariant-reads
invariant-reads g l = record {
  app : IsAppOf l.shared.service.of l.seat;
  same : IsSame l.fn.seat l.seat;
}
