use Rattle.std.proofs.Common.{subst}
use Rattle.tbl_fakes.specs.declared.calm_bank.CalmBank.{CalmBank}
use Rattle.shipped_kit.specs.declared.validators.FirstByte.{FirstByte}
use Rattle.tbl_live.specs.Seats.{SeatView, IsSame}
use Rattle.test_live.proofs.callers.call_each.Goals as goal

pub returns : goal.returns
returns g c = record {
  same = λ i d within.
      let at = (c.for_each_mut.ensures i d within).1 in
      subst (λ (p : SeatView CalmBank FirstByte × SeatView CalmBank FirstByte). IsSame p.0 p.1) (λ j. (at.argument_is j, at.left j)) at.call;
}
