use Rattle.std.proofs.Common.{sym, subst, arith}
use Rattle.tbl_fakes.specs.declared.calm_bank.CalmBank.{CalmBank}
use Rattle.shipped_kit.specs.declared.validators.FirstByte.{FirstByte}
use Rattle.tbl_live.specs.Seats.{SeatView, IsAppOf, IsSame}
use Rattle.tbl_live.proofs.SeatLemmas.{are_apps}
use Rattle.tbl_live.proofs.SeatCalls.{still_one}
use Rattle.live_example.proofs.flight.read_in_the_end.Goals as goal

pub read_last-requires : goal.read_last-requires
read_last-requires g c =
    let lent = c.index_mut-seat in
    let count = c.requires.seats.count in
    let within = c.requires.place in
    record { app = subst (IsAppOf c.args.shared.now.service.of) (sym lent.ensures.value) (are_apps _ _ _ c.requires.seats c.args.place lent.result.now (omega (arith, count, within))) }

pub returns : goal.returns
returns g c =
    let lent = c.index_mut-seat in
    record { seats = still_one _ _ _ c.requires.seats c.args.place c.read_last.new.seat lent.result.now (subst (λ (s : SeatView CalmBank FirstByte). IsSame s c.read_last.new.seat) lent.ensures.value c.read_last.ensures.same) }
