use Rattle.std.proofs.Common.{refl, ap, ◌∙◌}
use Rattle.tbl_outside.proofs.Streams.{unread}
use Rattle.tbl_session.specs.Session.{ran}
use Rattle.tbl_history.proofs.Laws.{Laws}
use Rattle.tbl_history.proofs.Openings.{first_opening}
use Rattle.tbl_stream.specs.Opening.{opening_by}
use Rattle.tbl_stream.proofs.ServingLemmas.{unlived}
use Rattle.tbl_stream.proofs.serving.play_records.Goals as goal

pub returns-in-Err-clause-lives : goal.returns-in-Err-clause-lives
returns-in-Err-clause-lives g c =
    let b = g.B.Bank in
    let service = c.args.service in
    let back = c.in-Err.field-0 in
    let fails = c.in-Err.ensures.err in
    let laws : Laws b = record { tells_both = g.met.B.Bank.tells_both; leaves_now = g.met.B.Bank.leaves_now; leaves_only_now = g.met.B.Bank.leaves_only_now; counts_now = g.met.B.Bank.counts_now } in
    let r = ran g.S.Source g.K.Sink (c.args.source.now, c.args.sink.now) (c.args.source.now, c.finish_unbegun.new.sink) (c.finish_unbegun.result, back.bank) in
    unlived c.args.limit b laws g.C.Validator.verdict (opening_by b service c.args.admit) (first_opening (b.now service.bank) service.kit.items c.args.admit)
    r refl refl fails.crash back.cause fails.counted c.finish_unbegun.ensures

pub returns-in-Err-clause-once : goal.returns-in-Err-clause-once
returns-in-Err-clause-once g c = unread (g.S.Source.how_far c.args.source.now)

pub returns-in-Ok-clause-lives : goal.returns-in-Ok-clause-lives
returns-in-Ok-clause-lives g c =
    rw (c.end-in-Ok.ensures.bank ∙ ap (λ engine. engine.state.store.bank) c.end.ensures) (c.play-status.ensures.lives (opening_by g.B.Bank c.args.service c.args.admit) c.in-Ok.ensures.serves)
