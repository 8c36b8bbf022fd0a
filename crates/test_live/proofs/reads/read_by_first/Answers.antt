use Rattle.std.proofs.Common.{sym, subst, arith}
use Rattle.tbl_fakes.specs.declared.calm_bank.CalmBank.{CalmBank}
use Rattle.shipped_kit.specs.declared.validators.FirstByte.{FirstByte}
use Rattle.tbl_live.specs.Seats.{SeatView, IsAppOf, IsSame}
use Rattle.tbl_live.proofs.SeatLemmas.{are_apps}
use Rattle.tbl_live.proofs.SeatCalls.{still_one}
use Rattle.test_live.proofs.reads.read_by_first.Goals as goal

pub read_all-requires : goal.read_all-requires
read_all-requires g c =
    let lent = c.index_mut-seat in
    let count = c.requires.seats.count in
    record { app = subst (IsAppOf c.args.service.now.of) (sym lent.ensures.value) (are_apps _ _ _ c.requires.seats 0 lent.result.now (omega (arith, count))) }

pub returns : goal.returns
returns g c =
    let lent = c.index_mut-seat in
    record {
      seats = still_one _ _ _ c.requires.seats 0 c.read_all.new.seat lent.result.now (subst (λ (s : SeatView CalmBank FirstByte). IsSame s c.read_all.new.seat) lent.ensures.value c.read_all.ensures.same);
    }
