-- The seat is the application's still.
use Rattle.tbl_live.specs.Seats.{IsAppOf, IsSame}
use Rattle.test_live.proofs.callers.call_all.Given as goal

abbrev pub invariant-calls : goal.invariant-calls
invariant-calls g l = record {
  app : IsAppOf l.service.of l.seat;
  same : IsSame l.fn.seat l.seat;
}
