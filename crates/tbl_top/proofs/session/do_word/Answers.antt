use Rattle.std.proofs.Common.{None, refl, sym, subst}
use Rattle.tbl_outside.proofs.Streams.{unread}
use Rattle.tbl_session.specs.Session.{ran}
use Rattle.tbl_stream.specs.Opening.{opening_by}
use Rattle.maker_words.proofs.Answering.{makes_not_usage, describes_not_usage}
use Rattle.tbl_top.specs.InTurn.{InTurn}
use Rattle.tbl_top.specs.Words.{Completes, HasThreads, Outcome}
use Rattle.tbl_top.specs.declared.words.Word.{Word}
use Rattle.tbl_top.proofs.CompletenessLemmas.{complete}
use Rattle.tbl_top.proofs.DrillLemmas.{drills_not_usage, drills_through}
use Rattle.tbl_top.proofs.ListingLemmas.{lists_not_usage, lists_through}
use Rattle.tbl_stream.proofs.StatusLemmas.{known_not_usage}
use Rattle.tbl_top.proofs.SessionLemmas.{played}
use Rattle.tbl_top.proofs.session.do_word.Goals as goal

-- ---- play

pub returns-in-Play-clause-usage : goal.returns-in-Play-clause-usage
returns-in-Play-clause-usage g c two = absurd (known_not_usage _ c.play_records.ensures.lives.reports.known two)

pub returns-in-Play-clause-threads : goal.returns-in-Play-clause-threads
returns-in-Play-clause-threads g c threads = absurd (subst HasThreads c.in-Play.is threads)

pub returns-in-Play-clause-outcome : goal.returns-in-Play-clause-outcome
returns-in-Play-clause-outcome g c other =
    let b = g.B.Bank in
    let o = opening_by b c.args.service c.args.admit in
    let r = ran g.S.Source g.K.Sink (c.args.source.now, c.args.sink.now) (c.play_records.new.source, c.play_records.new.sink) c.play_records.result in
    subst (λ (w : Word). Outcome w b g.C.Validator.verdict o r) (sym c.in-Play.is) (played b g.C.Validator.verdict o r c.play_records.ensures.lives)

pub returns-in-Play-clause-complete : goal.returns-in-Play-clause-complete
returns-in-Play-clause-complete g c other =
    let b = g.B.Bank in
    let o = opening_by b c.args.service c.args.admit in
    let r = ran g.S.Source g.K.Sink (c.args.source.now, c.args.sink.now) (c.play_records.new.source, c.play_records.new.sink) c.play_records.result in
    subst (λ (w : Word). Completes w b c.args.service.bank r) (sym c.in-Play.is)
    (complete (InTurn r) b g.C.Validator.verdict o r (played b g.C.Validator.verdict o r c.play_records.ensures.lives).0)

-- ---- store

pub returns-in-Store-clause-usage : goal.returns-in-Store-clause-usage
returns-in-Store-clause-usage g c two = absurd (lists_not_usage g.B.Bank _ _ _ _ _ c.list_store-status.ensures.listing two)

pub returns-in-Store-clause-threads : goal.returns-in-Store-clause-threads
returns-in-Store-clause-threads g c threads = absurd (subst HasThreads c.in-Store.is threads)

pub returns-in-Store-clause-outcome : goal.returns-in-Store-clause-outcome
returns-in-Store-clause-outcome g c other =
    let b = g.B.Bank in
    let r = ran g.S.Source g.K.Sink (c.args.source.now, c.args.sink.now) (c.args.source.now, c.list_store-status.new.sink) (c.list_store-status.result, c.list_store-status.new.bank) in
    subst (λ (w : Word). Outcome w b g.C.Validator.verdict (opening_by b c.args.service c.args.admit) r) (sym c.in-Store.is) c.list_store-status.ensures.listing

pub returns-in-Store-clause-complete : goal.returns-in-Store-clause-complete
returns-in-Store-clause-complete g c other =
    let b = g.B.Bank in
    let r = ran g.S.Source g.K.Sink (c.args.source.now, c.args.sink.now) (c.args.source.now, c.list_store-status.new.sink) (c.list_store-status.result, c.list_store-status.new.bank) in
    subst (λ (w : Word). Completes w b c.args.service.bank r) (sym c.in-Store.is) (lists_through b _ _ _ _ _ c.list_store-status.ensures.listing)

-- ---- drill

pub run_drill-requires-clause-few : goal.run_drill-requires-clause-few
run_drill-requires-clause-few g c = c.requires.few c.in-Drill.seed c.in-Drill.rounds c.in-Drill.is

pub returns-in-Drill-clause-usage : goal.returns-in-Drill-clause-usage
returns-in-Drill-clause-usage g c two =
    let o = opening_by g.B.Bank c.args.service c.args.admit in
    absurd (drills_not_usage c.in-Drill.seed c.in-Drill.rounds g.B.Bank g.C.Validator.verdict o _ (c.run_drill.ensures.drill None 0) two)

pub returns-in-Drill-clause-threads : goal.returns-in-Drill-clause-threads
returns-in-Drill-clause-threads g c threads = absurd (subst HasThreads c.in-Drill.is threads)

pub returns-in-Drill-clause-outcome : goal.returns-in-Drill-clause-outcome
returns-in-Drill-clause-outcome g c other =
    let b = g.B.Bank in
    let r = ran g.S.Source g.K.Sink (c.args.source.now, c.args.sink.now) (c.args.source.now, c.run_drill.new.sink) c.run_drill.result in
    subst (λ (w : Word). Outcome w b g.C.Validator.verdict (opening_by b c.args.service c.args.admit) r) (sym c.in-Drill.is)
    (c.run_drill.ensures.drill (g.S.Source.left c.args.source.now) (g.S.Source.faults c.args.source.now))

pub returns-in-Drill-clause-complete : goal.returns-in-Drill-clause-complete
returns-in-Drill-clause-complete g c other =
    let b = g.B.Bank in
    let o = opening_by b c.args.service c.args.admit in
    let r = ran g.S.Source g.K.Sink (c.args.source.now, c.args.sink.now) (c.args.source.now, c.run_drill.new.sink) c.run_drill.result in
    subst (λ (w : Word). Completes w b c.args.service.bank r) (sym c.in-Drill.is)
    (drills_through c.in-Drill.seed c.in-Drill.rounds b g.C.Validator.verdict o r (c.run_drill.ensures.drill (g.S.Source.left c.args.source.now) (g.S.Source.faults c.args.source.now)))

-- ---- make

pub returns-in-Make-clause-usage : goal.returns-in-Make-clause-usage
returns-in-Make-clause-usage g c two = absurd (makes_not_usage _ _ _ _ _ c.make_input.ensures.answers two)

pub returns-in-Make-clause-threads : goal.returns-in-Make-clause-threads
returns-in-Make-clause-threads g c threads = absurd (subst HasThreads c.in-Make.is threads)

pub returns-in-Make-clause-outcome : goal.returns-in-Make-clause-outcome
returns-in-Make-clause-outcome g c other =
    let b = g.B.Bank in
    let r = ran g.S.Source g.K.Sink (c.args.source.now, c.args.sink.now) (c.make_input.new.source, c.make_input.new.sink) (c.make_input.result, c.args.service.bank) in
    subst (λ (w : Word). Outcome w b g.C.Validator.verdict (opening_by b c.args.service c.args.admit) r) (sym c.in-Make.is)
    (record { answers = c.make_input.ensures.answers; made = c.make_input.ensures.made; failures = c.make_input.ensures.failures; untouched = refl })

pub returns-in-Make-clause-complete : goal.returns-in-Make-clause-complete
returns-in-Make-clause-complete g c other =
    let b = g.B.Bank in
    let r = ran g.S.Source g.K.Sink (c.args.source.now, c.args.sink.now) (c.make_input.new.source, c.make_input.new.sink) (c.make_input.result, c.args.service.bank) in
    subst (λ (w : Word). Completes w b c.args.service.bank r) (sym c.in-Make.is) c.make_input.ensures.complete

-- ---- describe

pub returns-in-Describe-clause-usage : goal.returns-in-Describe-clause-usage
returns-in-Describe-clause-usage g c two = absurd (describes_not_usage c.in-Describe.shape _ _ _ _ _ c.describe_input.ensures.answers two)

pub returns-in-Describe-clause-threads : goal.returns-in-Describe-clause-threads
returns-in-Describe-clause-threads g c threads = absurd (subst HasThreads c.in-Describe.is threads)

pub returns-in-Describe-clause-outcome : goal.returns-in-Describe-clause-outcome
returns-in-Describe-clause-outcome g c other =
    let b = g.B.Bank in
    let r = ran g.S.Source g.K.Sink (c.args.source.now, c.args.sink.now) (c.describe_input.new.source, c.describe_input.new.sink) (c.describe_input.result, c.args.service.bank) in
    subst (λ (w : Word). Outcome w b g.C.Validator.verdict (opening_by b c.args.service c.args.admit) r) (sym c.in-Describe.is)
    (record { answers = c.describe_input.ensures.answers; described = c.describe_input.ensures.described; failures = c.describe_input.ensures.failures; untouched = refl })

pub returns-in-Describe-clause-complete : goal.returns-in-Describe-clause-complete
returns-in-Describe-clause-complete g c other =
    let b = g.B.Bank in
    let r = ran g.S.Source g.K.Sink (c.args.source.now, c.args.sink.now) (c.describe_input.new.source, c.describe_input.new.sink) (c.describe_input.result, c.args.service.bank) in
    subst (λ (w : Word). Completes w b c.args.service.bank r) (sym c.in-Describe.is) c.describe_input.ensures.complete

-- ---- crew and watch

pub returns-in-Crew-clause-usage : goal.returns-in-Crew-clause-usage
returns-in-Crew-clause-usage g c two = subst HasThreads (sym c.in-Crew.is) tt

pub returns-in-Crew-clause-outcome : goal.returns-in-Crew-clause-outcome
returns-in-Crew-clause-outcome g c other = absurd (other (subst HasThreads (sym c.in-Crew.is) tt))

pub returns-in-Crew-clause-complete : goal.returns-in-Crew-clause-complete
returns-in-Crew-clause-complete g c other = absurd (other (subst HasThreads (sym c.in-Crew.is) tt))

pub returns-in-Watch-clause-usage : goal.returns-in-Watch-clause-usage
returns-in-Watch-clause-usage g c two = subst HasThreads (sym c.in-Watch.is) tt

pub returns-in-Watch-clause-outcome : goal.returns-in-Watch-clause-outcome
returns-in-Watch-clause-outcome g c other = absurd (other (subst HasThreads (sym c.in-Watch.is) tt))

pub returns-in-Watch-clause-complete : goal.returns-in-Watch-clause-complete
returns-in-Watch-clause-complete g c other = absurd (other (subst HasThreads (sym c.in-Watch.is) tt))

-- ---- what isn't read

pub returns-in-Store-clause-once : goal.returns-in-Store-clause-once
returns-in-Store-clause-once g c = unread (g.S.Source.how_far c.args.source.now)

pub returns-in-Drill-clause-once : goal.returns-in-Drill-clause-once
returns-in-Drill-clause-once g c = unread (g.S.Source.how_far c.args.source.now)

pub returns-in-Crew-clause-once : goal.returns-in-Crew-clause-once
returns-in-Crew-clause-once g c = unread (g.S.Source.how_far c.args.source.now)

pub returns-in-Watch-clause-once : goal.returns-in-Watch-clause-once
returns-in-Watch-clause-once g c = unread (g.S.Source.how_far c.args.source.now)
