use Rattle.tbl_crew.proofs.MoveLemmas.{since_leads, all_ended}
use Rattle.tbl_crew.proofs.workers.play_beside.Goals as goal

pub returns-clause-leads : goal.returns-clause-leads
returns-clause-leads g c = since_leads g.B.Bank g.C.Validator.verdict _ _ c.close.ensures.since

pub returns-clause-ended : goal.returns-clause-ended
returns-clause-ended g c =
    all_ended g.B.Bank g.C.Validator.verdict c.play_range-place.result.me.0.seen c.close.result 17 c.play_range-place.ensures.played.seat.1 c.close.ensures.knows c.play_range-place.ensures.played.ended
