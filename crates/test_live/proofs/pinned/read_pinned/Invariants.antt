-- The seat is the application's still, and the image is lent to it.
use Rattle.tbl_live.specs.Lent.{IsLentTo}
use Rattle.tbl_live.specs.Seats.{IsAppOf, IsSame}
use Rattle.test_live.proofs.pinned.read_pinned.Given as goal

abbrev pub invariant-reads : goal.invariant-reads
invariant-reads g l = record {
  app : IsAppOf l.service.of l.seat;
  lent : IsLentTo l.seat l.pin;
  same : IsSame l.fn.seat l.seat;
}
