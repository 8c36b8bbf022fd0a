use Rattle.std.proofs.Common.{◌≡◌, Option, Some, ap, ◌∙◌}
use Rattle.tbl_session.specs.Orders.{ByActor}
use Rattle.tbl_session.specs.Session.{ran}
use Rattle.tbl_stream.specs.Opening.{opening_by}
use Rattle.tbl_top.specs.Watching.{Watched, but_for_sink}
use Rattle.tbl_top.specs.Words.{Completes, Outcome, ReadsNothing}
use Rattle.tbl_top.specs.declared.words.Telling.{Telling}
use Rattle.tbl_top.specs.declared.words.Telling.TheVariants.{Transcript, Report}
use Rattle.tbl_top.specs.declared.words.Word.TheVariants.{Crew, Watch}
use Rattle.tbl_top.proofs.CompletenessLemmas.{complete}
use Rattle.tbl_top.proofs.StatusLemmas.{known_not_usage}
use Rattle.tbl_top.proofs.WordsLemmas.{Told, threads_asked, of_threads, no_threads}
use Rattle.tbl_top.proofs.running.run.Goals as goal

-- ---- crew

pub returns-in-Some-Transcript-default-clause-usage : goal.returns-in-Some-Transcript-default-clause-usage
returns-in-Some-Transcript-default-clause-usage g c two = absurd (known_not_usage _ c.run_crew.ensures.outcome.0.known two)

pub returns-in-Some-Transcript-default-clause-unknown : goal.returns-in-Some-Transcript-default-clause-unknown
returns-in-Some-Transcript-default-clause-unknown g c none =
    let is : ◌≡◌ {A = Option Told} c.threads_of.result (Some (Transcript, c.in-Some-Transcript-default.admit)) = c.in-Some-Transcript-default.is ∙ ap (λ (telling : Telling). Some (telling, c.in-Some-Transcript-default.admit)) c.in-Some-Transcript-default.field-0-0-is in
    absurd (none Crew c.in-Some-Transcript-default.admit (threads_asked c.args.words.now Crew tt Transcript c.threads_of.result c.in-Some-Transcript-default.admit is c.threads_of.ensures.crew))

pub returns-in-Some-Transcript-default-clause-untouched : goal.returns-in-Some-Transcript-default-clause-untouched
returns-in-Some-Transcript-default-clause-untouched g c none =
    let is : ◌≡◌ {A = Option Told} c.threads_of.result (Some (Transcript, c.in-Some-Transcript-default.admit)) = c.in-Some-Transcript-default.is ∙ ap (λ (telling : Telling). Some (telling, c.in-Some-Transcript-default.admit)) c.in-Some-Transcript-default.field-0-0-is in
    absurd (none Crew c.in-Some-Transcript-default.admit (threads_asked c.args.words.now Crew tt Transcript c.threads_of.result c.in-Some-Transcript-default.admit is c.threads_of.ensures.crew))

pub returns-in-Some-Transcript-default-clause-unread : goal.returns-in-Some-Transcript-default-clause-unread
returns-in-Some-Transcript-default-clause-unread g c word admit asks reads =
    let is : ◌≡◌ {A = Option Told} c.threads_of.result (Some (Transcript, c.in-Some-Transcript-default.admit)) = c.in-Some-Transcript-default.is ∙ ap (λ (telling : Telling). Some (telling, c.in-Some-Transcript-default.admit)) c.in-Some-Transcript-default.field-0-0-is in
    absurd (of_threads c.args.words.now Crew tt Transcript c.threads_of.result c.in-Some-Transcript-default.admit is c.threads_of.ensures.crew (λ w lists. ReadsNothing w → ⊥) word admit asks (λ none. none) reads)

pub returns-in-Some-Transcript-default-clause-outcome : goal.returns-in-Some-Transcript-default-clause-outcome
returns-in-Some-Transcript-default-clause-outcome g c word admit asks =
    let is : ◌≡◌ {A = Option Told} c.threads_of.result (Some (Transcript, c.in-Some-Transcript-default.admit)) = c.in-Some-Transcript-default.is ∙ ap (λ (telling : Telling). Some (telling, c.in-Some-Transcript-default.admit)) c.in-Some-Transcript-default.field-0-0-is in
    let b = g.B.Bank in
    let r = ran g.S.Source g.K.Sink (c.args.source.now, c.args.sink.now) (c.run_crew.new.source, c.run_crew.new.sink) c.run_crew.result in
    of_threads c.args.words.now Crew tt Transcript c.threads_of.result c.in-Some-Transcript-default.admit is c.threads_of.ensures.crew (λ w lists. Outcome w b g.C.Validator.verdict (opening_by b c.args.service lists) r) word admit asks
    c.run_crew.ensures.outcome

pub returns-in-Some-Transcript-default-clause-complete : goal.returns-in-Some-Transcript-default-clause-complete
returns-in-Some-Transcript-default-clause-complete g c word admit asks =
    let is : ◌≡◌ {A = Option Told} c.threads_of.result (Some (Transcript, c.in-Some-Transcript-default.admit)) = c.in-Some-Transcript-default.is ∙ ap (λ (telling : Telling). Some (telling, c.in-Some-Transcript-default.admit)) c.in-Some-Transcript-default.field-0-0-is in
    let b = g.B.Bank in
    let r = ran g.S.Source g.K.Sink (c.args.source.now, c.args.sink.now) (c.run_crew.new.source, c.run_crew.new.sink) c.run_crew.result in
    of_threads c.args.words.now Crew tt Transcript c.threads_of.result c.in-Some-Transcript-default.admit is c.threads_of.ensures.crew (λ w lists. Completes w b c.args.service.bank r) word admit asks
    (complete ByActor b g.C.Validator.verdict (opening_by b c.args.service c.in-Some-Transcript-default.admit) r c.run_crew.ensures.outcome.0)

-- ---- watch

pub returns-in-Some-Report-default-clause-usage : goal.returns-in-Some-Report-default-clause-usage
returns-in-Some-Report-default-clause-usage g c two = absurd (known_not_usage _ c.run_watch.ensures.outcome.0.session.known two)

pub returns-in-Some-Report-default-clause-unknown : goal.returns-in-Some-Report-default-clause-unknown
returns-in-Some-Report-default-clause-unknown g c none =
    let is : ◌≡◌ {A = Option Told} c.threads_of.result (Some (Report, c.in-Some-Report-default.admit)) = c.in-Some-Report-default.is ∙ ap (λ (telling : Telling). Some (telling, c.in-Some-Report-default.admit)) c.in-Some-Report-default.field-0-0-is in
    absurd (none Watch c.in-Some-Report-default.admit (threads_asked c.args.words.now Watch tt Report c.threads_of.result c.in-Some-Report-default.admit is c.threads_of.ensures.watch))

pub returns-in-Some-Report-default-clause-untouched : goal.returns-in-Some-Report-default-clause-untouched
returns-in-Some-Report-default-clause-untouched g c none =
    let is : ◌≡◌ {A = Option Told} c.threads_of.result (Some (Report, c.in-Some-Report-default.admit)) = c.in-Some-Report-default.is ∙ ap (λ (telling : Telling). Some (telling, c.in-Some-Report-default.admit)) c.in-Some-Report-default.field-0-0-is in
    absurd (none Watch c.in-Some-Report-default.admit (threads_asked c.args.words.now Watch tt Report c.threads_of.result c.in-Some-Report-default.admit is c.threads_of.ensures.watch))

pub returns-in-Some-Report-default-clause-unread : goal.returns-in-Some-Report-default-clause-unread
returns-in-Some-Report-default-clause-unread g c word admit asks reads =
    let is : ◌≡◌ {A = Option Told} c.threads_of.result (Some (Report, c.in-Some-Report-default.admit)) = c.in-Some-Report-default.is ∙ ap (λ (telling : Telling). Some (telling, c.in-Some-Report-default.admit)) c.in-Some-Report-default.field-0-0-is in
    absurd (of_threads c.args.words.now Watch tt Report c.threads_of.result c.in-Some-Report-default.admit is c.threads_of.ensures.watch (λ w lists. ReadsNothing w → ⊥) word admit asks (λ none. none) reads)

pub returns-in-Some-Report-default-clause-outcome : goal.returns-in-Some-Report-default-clause-outcome
returns-in-Some-Report-default-clause-outcome g c word admit asks =
    let is : ◌≡◌ {A = Option Told} c.threads_of.result (Some (Report, c.in-Some-Report-default.admit)) = c.in-Some-Report-default.is ∙ ap (λ (telling : Telling). Some (telling, c.in-Some-Report-default.admit)) c.in-Some-Report-default.field-0-0-is in
    let b = g.B.Bank in
    let r = ran g.S.Source g.K.Sink (c.args.source.now, c.args.sink.now) (c.run_watch.new.source, c.run_watch.new.sink) c.run_watch.result in
    of_threads c.args.words.now Watch tt Report c.threads_of.result c.in-Some-Report-default.admit is c.threads_of.ensures.watch (λ w lists. Outcome w b g.C.Validator.verdict (opening_by b c.args.service lists) r) word admit asks
    c.run_watch.ensures.outcome

pub returns-in-Some-Report-default-clause-complete : goal.returns-in-Some-Report-default-clause-complete
returns-in-Some-Report-default-clause-complete g c word admit asks =
    let is : ◌≡◌ {A = Option Told} c.threads_of.result (Some (Report, c.in-Some-Report-default.admit)) = c.in-Some-Report-default.is ∙ ap (λ (telling : Telling). Some (telling, c.in-Some-Report-default.admit)) c.in-Some-Report-default.field-0-0-is in
    let b = g.B.Bank in
    let r = ran g.S.Source g.K.Sink (c.args.source.now, c.args.sink.now) (c.run_watch.new.source, c.run_watch.new.sink) c.run_watch.result in
    of_threads c.args.words.now Watch tt Report c.threads_of.result c.in-Some-Report-default.admit is c.threads_of.ensures.watch (λ w lists. Completes w b c.args.service.bank r) word admit asks
    (let told = c.run_watch.ensures.outcome.0 in
    let o = opening_by b c.args.service c.in-Some-Report-default.admit in
    complete (Watched b o told.looks) b g.C.Validator.verdict o (but_for_sink r) told.session)

-- ---- any other word

pub returns-in-None-clause-usage : goal.returns-in-None-clause-usage
returns-in-None-clause-usage g c two word admit asks =
    no_threads c.args.words.now c.threads_of.result c.in-None.is c.threads_of.ensures.crew c.threads_of.ensures.watch word admit asks (c.run_in_order.ensures.usage two word admit asks)

pub returns-in-None-clause-unknown : goal.returns-in-None-clause-unknown
returns-in-None-clause-unknown g c none = c.run_in_order.ensures.unknown (λ word admit asks. absurd (none word admit asks))

pub returns-in-None-clause-untouched : goal.returns-in-None-clause-untouched
returns-in-None-clause-untouched g c none = c.run_in_order.ensures.untouched (λ word admit asks. absurd (none word admit asks))

pub returns-in-None-clause-outcome : goal.returns-in-None-clause-outcome
returns-in-None-clause-outcome g c word admit asks =
    c.run_in_order.ensures.outcome word admit asks (no_threads c.args.words.now c.threads_of.result c.in-None.is c.threads_of.ensures.crew c.threads_of.ensures.watch word admit asks)

pub returns-in-None-clause-complete : goal.returns-in-None-clause-complete
returns-in-None-clause-complete g c word admit asks =
    c.run_in_order.ensures.complete word admit asks (no_threads c.args.words.now c.threads_of.result c.in-None.is c.threads_of.ensures.crew c.threads_of.ensures.watch word admit asks)
