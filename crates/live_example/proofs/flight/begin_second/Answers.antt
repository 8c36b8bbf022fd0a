use Rattle.std.proofs.Common.{sym, subst, arith}
use Rattle.tbl_fakes.specs.declared.calm_bank.CalmBank.{CalmBank}
use Rattle.shipped_kit.specs.declared.validators.FirstByte.{FirstByte}
use Rattle.tbl_live.specs.Seats.{SeatView, IsAppOf, IsSame}
use Rattle.tbl_live.proofs.SeatLemmas.{are_apps}
use Rattle.tbl_live.proofs.SeatCalls.{still_one}
use Rattle.live_example.proofs.flight.begin_second.Goals as goal

pub begin_thermal-requires : goal.begin_thermal-requires
begin_thermal-requires g c =
    let lent = c.index_mut-seat in
    let count = c.requires.seats.count in
    record { app = subst (IsAppOf c.args.shared.now.service.of) (sym lent.ensures.value) (are_apps _ _ _ c.requires.seats 1 lent.result.now (omega (arith, count))) }

pub returns-clause-seats : goal.returns-clause-seats
returns-clause-seats g c =
    let lent = c.index_mut-seat in
    still_one _ _ _ c.requires.seats 1 c.begin_thermal.new.seat lent.result.now (subst (λ (s : SeatView CalmBank FirstByte). IsSame s c.begin_thermal.new.seat) lent.ensures.value c.begin_thermal.ensures.same)
