use Rattle.std.proofs.Common.{◌∙◌, refl}
use Rattle.tbl_kinds.specs.Records.{actor_number}
use Rattle.tbl_live.proofs.CallLemmas.{seat_after, looked}
use Rattle.tbl_live.proofs.StepLemmas.{moves_itself}
use Rattle.tbl_live.proofs.service.Service.lend.Goals as goal

pub invariant_of-seat : goal.invariant_of-seat
invariant_of-seat g c =
    let x = c.seat.inside in
    let y = c.take-served.result in
    seat_after g.B.Bank g.C.Validator.verdict g.K.ServiceCore.bound x.place.me c.take-served.new.seat.me x.actor x.saw x.met y c.seat.invariant c.take-served.ensures.knows c.take-served.ensures.holds y c.put_back.new.seat.me
    (moves_itself g.B.Bank g.C.Validator.verdict g.K.ServiceCore.bound y y c.lend-lent.ensures.served (actor_number x.actor)) c.put_back.ensures.idle _ _ c.count-seat-inside.ensures c.fault-seat-inside.ensures

pub returns-clause-stays : goal.returns-clause-stays
returns-clause-stays g c =
    let x = c.seat.inside in
    let y = c.take-served.result in
    rw (← c.seat.view_is)
    (looked g.B.Bank g.C.Validator.verdict g.K.ServiceCore.bound x.place.me c.take-served.new.seat.me x.actor x.saw x.met y c.seat.invariant c.take-served.ensures.knows c.take-served.ensures.holds y c.put_back.new.seat.me
    (moves_itself g.B.Bank g.C.Validator.verdict g.K.ServiceCore.bound y y c.lend-lent.ensures.served (actor_number x.actor)) c.put_back.ensures.idle x.place.table_id c.put_back.new.seat.table_id _ _ (c.put_back.ensures.own ∙ c.take-served.ensures.own)
    c.count-seat-inside.ensures c.fault-seat-inside.ensures refl)
