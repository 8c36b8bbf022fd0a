use Rattle.std.proofs.Common.{subst, arith, rules}
use Rattle.tbl_live.specs.Seats.{AreDealt}
use Rattle.tbl_live.proofs.SeatLemmas.{are_seats, are_fresh, parted}
use Rattle.tbl_live.proofs.service.Service.open.Goals as goal

pub returns-in-Ok-make-clause-opened : goal.returns-in-Ok-make-clause-opened
returns-in-Ok-make-clause-opened g c =
    let dealt = subst (AreDealt _ 17) (parted c.deal.new.seats.items c.remove-ground.new.self.items c.remove-ground.result (omega (arith, c.deal.ensures.dealt.count)) c.remove-ground.ensures.value c.remove-ground.ensures.items) c.deal.ensures.dealt in
    record { opened = search rules; seats = are_seats _ _ dealt; fresh = are_fresh _ _ dealt }
