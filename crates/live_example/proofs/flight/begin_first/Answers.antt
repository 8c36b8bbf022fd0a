use Rattle.std.proofs.Common.{sym, subst, arith}
use Rattle.tbl_fakes.specs.declared.calm_bank.CalmBank.{CalmBank}
use Rattle.shipped_kit.specs.declared.validators.FirstByte.{FirstByte}
use Rattle.tbl_live.specs.Seats.{SeatView, IsAppOf, IsSame}
use Rattle.tbl_live.proofs.SeatLemmas.{are_apps}
use Rattle.tbl_live.proofs.SeatCalls.{still_one}
use Rattle.live_example.proofs.flight.begin_first.Goals as goal

pub begin_guidance-requires : goal.begin_guidance-requires
begin_guidance-requires g c =
    let lent = c.index_mut-seat in
    let count = c.requires.seats.count in
    record { app = subst (IsAppOf c.args.shared.now.service.of) (sym lent.ensures.value) (are_apps _ _ _ c.requires.seats 0 lent.result.now (omega (arith, count))) }

pub returns-clause-seats : goal.returns-clause-seats
returns-clause-seats g c =
    let lent = c.index_mut-seat in
    still_one _ _ _ c.requires.seats 0 c.begin_guidance.new.seat lent.result.now (subst (λ (s : SeatView CalmBank FirstByte). IsSame s c.begin_guidance.new.seat) lent.ensures.value c.begin_guidance.ensures.same)
