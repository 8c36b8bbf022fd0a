use Rattle.tbl_crew.proofs.SeatLemmas.{both_ended, last_looked, others_ended}
use Rattle.tbl_crew.proofs.watching.watch_range.Goals as goal

pub returns-clause-others : goal.returns-clause-others
returns-clause-others g c =
    let joined = c.join-place in
    others_ended joined.result.0.me joined.result.1.0.me c.join.new.seat.me joined.ensures.first.seat c.join.ensures.idle joined.ensures.first.ended

pub returns-clause-looked : goal.returns-clause-looked
returns-clause-looked g c =
    let joined = c.join-place in
    last_looked g.B.Bank g.C.Validator.verdict c.args.room.now.lock.now.table.shared.key.value joined.result.1.1 joined.result.1.2 joined.result.0.me joined.result.1.0.me c.join.new.seat.me joined.ensures.first.seat c.join.ensures.idle joined.ensures.second.looked

pub returns-clause-ended : goal.returns-clause-ended
returns-clause-ended g c =
    let joined = c.join-place in
    both_ended joined.result.1.2 joined.result.0.me joined.result.1.0.me c.join.new.seat.me joined.ensures.first.seat c.join.ensures.idle joined.ensures.first.ended joined.ensures.second.ended
