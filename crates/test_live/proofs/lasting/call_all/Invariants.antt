-- The seat is the ground's still.
use Rattle.tbl_live.specs.Seats.{IsOfActor, IsSame}
use Rattle.test_live.proofs.lasting.call_all.Given as goal

abbrev pub invariant-calls : goal.invariant-calls
invariant-calls g l = record {
  ground : IsOfActor l.service.of 0 l.seat;
  same : IsSame l.fn.seat l.seat;
}
