use Rattle.std.proofs.Common.{◌∙◌, ap, sym, subst, arith}
use Rattle.std.specs.Prelude.{IfSome}
use Rattle.tbl_live.specs.Lent.{IsTakenFor}
use Rattle.tbl_live.proofs.CallLemmas.{called, seat_after, still_taken, is_given}
use Rattle.tbl_live.proofs.service.Service.turn.Goals as goal

pub invariant_of-seat : goal.invariant_of-seat
invariant_of-seat g c =
    let x = c.seat.inside in
    seat_after g.B.Bank g.C.Validator.verdict g.K.ServiceCore.bound x.place.me c.take-served.new.seat.me x.actor x.saw x.met c.take-served.result c.seat.invariant c.take-served.ensures.knows c.take-served.ensures.holds c.answer-answer.new.self c.put_back.new.seat.me c.answer-answer.ensures.moves c.put_back.ensures.idle _ _
    c.count-seat-inside.ensures c.fault-seat-inside.ensures

pub returns-clause-says : goal.returns-clause-says
returns-clause-says g c =
    let x = c.seat.inside in
    let kept = c.answer-answer.ensures.room.keeps in
    let appended = c.append_later.ensures.room in
    rw (← c.seat.view_is)
    (called g.B.Bank g.C.Validator.verdict g.K.ServiceCore.bound x.place.me c.take-served.new.seat.me x.actor x.saw x.met c.take-served.result c.seat.invariant c.take-served.ensures.knows c.take-served.ensures.holds c.answer-answer.new.self c.put_back.new.seat.me c.answer-answer.ensures.moves c.put_back.ensures.idle
    x.place.table_id c.put_back.new.seat.table_id _ _ c.args.request _ _ c.answer-answer.result.0 (c.put_back.ensures.own ∙ c.take-served.ensures.own) c.count-seat-inside.ensures c.fault-seat-inside.ensures (rw c.append_later.ensures.bytes c.answer-answer.ensures.answers) (omega (arith, kept, appended)))

pub answer-answer-requires : goal.answer-answer-requires
answer-answer-requires g c =
    let x = c.seat.inside in
    record {
      fits = rw (ap (λ seat. seat.actor) c.seat.view_is) c.requires.call.fits;
      taken = still_taken g.B.Bank g.C.Validator.verdict g.K.ServiceCore.bound x.place.me c.take-served.new.seat.me x.actor x.saw x.met c.take-served.result c.seat.invariant c.take-served.ensures.knows c.take-served.ensures.holds x.place.table_id c.args.request c.args.taken
          (subst (λ seat. IfSome c.args.taken (IsTakenFor seat c.args.request)) (sym c.seat.view_is) c.requires.taken);
      room = c.requires.call.room;
    }

pub returns-clause-lent : goal.returns-clause-lent
returns-clause-lent g c =
    let x = c.seat.inside in
    rw (← c.seat.view_is)
    (is_given g.B.Bank g.C.Validator.verdict g.K.ServiceCore.bound x.place.me c.take-served.new.seat.me x.actor x.saw x.met c.take-served.result c.seat.invariant c.take-served.ensures.knows c.take-served.ensures.holds c.answer-answer.new.self c.put_back.new.seat.me c.answer-answer.ensures.moves c.put_back.ensures.idle
    c.args.taken c.answer-answer.result.0 c.answer-answer.ensures.lent)
