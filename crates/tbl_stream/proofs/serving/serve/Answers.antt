use Rattle.std.proofs.Common.{◌≡◌, None, sym, subst, ◌∙◌}
use Rattle.std.proofs.lemmas.Option.{same_Some}
use Rattle.tbl_kinds.specs.Admitted.{Admitted}
use Rattle.tbl_session.specs.Session.{ran}
use Rattle.tbl_stream.specs.Opening.{opening_by}
use Rattle.tbl_stream.specs.Serving.{Lives}
use Rattle.tbl_stream.proofs.StatusLemmas.{known_not_usage}
use Rattle.tbl_stream.proofs.serving.serve.Goals as goal

pub returns-in-Some-clause-usage : goal.returns-in-Some-clause-usage
returns-in-Some-clause-usage g c two = absurd (known_not_usage c.play_records.result.0 c.play_records.ensures.lives.reports.known two)

pub returns-in-Some-clause-unknown : goal.returns-in-Some-clause-unknown
returns-in-Some-clause-unknown g c none = absurd (none c.in-Some.admit ((c.admitted_by.ensures c.in-Some.admit).0 c.in-Some.is))

pub returns-in-Some-clause-untouched : goal.returns-in-Some-clause-untouched
returns-in-Some-clause-untouched g c none = absurd (none c.in-Some.admit ((c.admitted_by.ensures c.in-Some.admit).0 c.in-Some.is))

pub returns-in-Some-clause-lives : goal.returns-in-Some-clause-lives
returns-in-Some-clause-lives g c admit asks =
    let b = g.B.Bank in
    let r = ran g.S.Source g.K.Sink (c.args.source.now, c.args.sink.now) (c.play_records.new.source, c.play_records.new.sink) c.play_records.result in
    let same : c.in-Some.admit ≡ admit = same_Some c.in-Some.admit admit (sym c.in-Some.is ∙ (c.admitted_by.ensures admit).1 asks) in
    subst (λ (lists : Admitted). Lives None b g.C.Validator.verdict (opening_by b c.args.service lists) r) same c.play_records.ensures.lives

pub returns-in-None-clause-usage : goal.returns-in-None-clause-usage
returns-in-None-clause-usage g c two admit asks = absurd (let found = (c.admitted_by.ensures admit).1 asks in let none = c.in-None.is in cc)

pub returns-in-None-clause-lives : goal.returns-in-None-clause-lives
returns-in-None-clause-lives g c admit asks = absurd (let found = (c.admitted_by.ensures admit).1 asks in let none = c.in-None.is in cc)
