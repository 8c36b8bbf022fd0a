use Rattle.std.proofs.Common.{refl}
use Rattle.tbl_session.specs.Orders.{ByActor}
use Rattle.tbl_outside.proofs.Streams.{unread}
use Rattle.tbl_session.specs.Session.{ran}
use Rattle.tbl_history.proofs.Laws.{Laws}
use Rattle.tbl_stream.specs.Opening.{opening_by}
use Rattle.tbl_top.proofs.CrewLemmas.{nothing_requested}
use Rattle.tbl_stream.proofs.FailureLemmas.{unbegun_failures}
use Rattle.tbl_top.proofs.SessionLemmas.{unbegun_session}
use Rattle.tbl_history.proofs.Openings.{first_opening}
use Rattle.tbl_top.proofs.crewing.run_crew.Goals as goal

pub returns-in-Err-clause-outcome : goal.returns-in-Err-clause-outcome
returns-in-Err-clause-outcome g c =
    let b = g.B.Bank in
    let service = c.args.service in
    let back = c.in-Err.field-0 in
    let fails = c.in-Err.ensures.err in
    let met = g.met.B.Bank g.world.𝓛 g.world.𝓜 g.world.𝓡 ((λ s x. x), (λ x. x), (λ x. x), λ x. x) in
    let laws : Laws b = record { tells_both = met.tells_both; leaves_now = met.leaves_now; leaves_only_now = met.leaves_only_now; counts_now = met.counts_now } in
    let r = ran g.S.Source g.K.Sink (c.args.source.now, c.args.sink.now) (c.args.source.now, c.finish_unbegun.new.sink) (c.finish_unbegun.result, back.bank) in (
      unbegun_session ByActor b laws g.C.Validator.verdict (opening_by b service c.args.admit) (first_opening (b.now service.bank) service.kit.items c.args.admit)
          r
          refl fails.crash (nothing_requested c.finish_unbegun.result) back.cause fails.counted c.finish_unbegun.ensures,
      unbegun_failures back.cause r refl c.finish_unbegun.ensures,
    )

pub returns-in-Ok-clause-outcome : goal.returns-in-Ok-clause-outcome
returns-in-Ok-clause-outcome g c =
    rw (c.end.ensures.bank) (c.play_crew-status.ensures.outcome (opening_by g.B.Bank c.args.service c.args.admit) c.in-Ok.ensures.begun.serves)

pub play_crew-status-requires-clause-begun : goal.play_crew-status-requires-clause-begun
play_crew-status-requires-clause-begun g c lifetimes outlive = (opening_by g.B.Bank c.args.service c.args.admit, c.in-Ok.ensures.begun)

pub returns-in-Err-clause-once : goal.returns-in-Err-clause-once
returns-in-Err-clause-once g c = unread (g.S.Source.how_far c.args.source.now)
