use Rattle.std.proofs.Common.{◌≡◌, inl, inr, refl}
use Rattle.tbl_outside.proofs.Streams.{unread}
use Rattle.tbl_session.specs.Session.{ran}
use Rattle.tbl_stream.specs.Opening.{opening_by}
use Rattle.tbl_top.specs.Words.{Completes, HasThreads, Outcome, ReadsNothing}
use Rattle.tbl_top.proofs.MakerLemmas.{starved, starved_through}
use Rattle.tbl_top.proofs.WordsLemmas.{drill_rounds, of_found, found_asked}
use Rattle.tbl_top.proofs.session.run_in_order.Goals as goal

-- ---- out of memory for the shape of a description

pub returns-in_default-clause-unknown : goal.returns-in_default-clause-unknown
returns-in_default-clause-unknown g c alone = inr (refl, c.in_default.ensures.memory)

pub returns-in_default-clause-outcome : goal.returns-in_default-clause-outcome
returns-in_default-clause-outcome g c word admit asks other =
    let b = g.B.Bank in
    let r = ran g.S.Source g.K.Sink (c.args.source.now, c.args.sink.now) (c.args.source.now, c.args.sink.now) (1, c.args.service.bank) in
    starved c.args.words.now c.in_default.ensures.memory b g.C.Validator.verdict (opening_by b c.args.service admit) r refl refl refl (refl, refl) refl word admit asks

pub returns-in_default-clause-complete : goal.returns-in_default-clause-complete
returns-in_default-clause-complete g c word admit asks other =
    let b = g.B.Bank in
    let r = ran g.S.Source g.K.Sink (c.args.source.now, c.args.sink.now) (c.args.source.now, c.args.sink.now) (1, c.args.service.bank) in
    starved_through c.args.words.now c.in_default.ensures.memory b c.args.service.bank r refl word admit asks

pub returns-in_default-clause-once : goal.returns-in_default-clause-once
returns-in_default-clause-once g c = unread (g.S.Source.how_far c.args.source.now)

pub returns-in-None-clause-once : goal.returns-in-None-clause-once
returns-in-None-clause-once g c = unread (g.S.Source.how_far c.args.source.now)

-- ---- what was found

pub do_word-requires-clause-few : goal.do_word-requires-clause-few
do_word-requires-clause-few g c seed rounds is =
    drill_rounds c.args.words.now c.in-Some.word c.in-Some.admit (found_asked c.args.words.now c.in-Some.word c.in-Some.admit c.in-Ok.found c.in-Some.is c.in-Ok.ensures.told) seed rounds is

pub returns-in-Some-clause-usage : goal.returns-in-Some-clause-usage
returns-in-Some-clause-usage g c two word admit asks =
    of_found c.args.words.now c.in-Some.word c.in-Some.admit c.in-Ok.found c.in-Some.is c.in-Ok.ensures.told (λ w lists. HasThreads w) word admit asks (c.do_word.ensures.usage two)

pub returns-in-Some-clause-unknown : goal.returns-in-Some-clause-unknown
returns-in-Some-clause-unknown g c alone =
    let asked = found_asked c.args.words.now c.in-Some.word c.in-Some.admit c.in-Ok.found c.in-Some.is c.in-Ok.ensures.told in
    inl (c.do_word.ensures.threads (alone c.in-Some.word c.in-Some.admit asked)).0

pub returns-in-Some-clause-untouched : goal.returns-in-Some-clause-untouched
returns-in-Some-clause-untouched g c alone =
    let asked = found_asked c.args.words.now c.in-Some.word c.in-Some.admit c.in-Ok.found c.in-Some.is c.in-Ok.ensures.told in
    let same = c.do_word.ensures.threads (alone c.in-Some.word c.in-Some.admit asked) in
    (same.1, same.2, same.3)

pub returns-in-Some-clause-unread : goal.returns-in-Some-clause-unread
returns-in-Some-clause-unread g c word admit asks =
    let still = c.do_word.new.source ≡ c.args.source.now in
    of_found c.args.words.now c.in-Some.word c.in-Some.admit c.in-Ok.found c.in-Some.is c.in-Ok.ensures.told (λ w lists. ReadsNothing w → still) word admit asks c.do_word.ensures.unread

pub returns-in-Some-clause-outcome : goal.returns-in-Some-clause-outcome
returns-in-Some-clause-outcome g c word admit asks =
    let b = g.B.Bank in
    let r = ran g.S.Source g.K.Sink (c.args.source.now, c.args.sink.now) (c.do_word.new.source, c.do_word.new.sink) c.do_word.result in
    of_found c.args.words.now c.in-Some.word c.in-Some.admit c.in-Ok.found c.in-Some.is c.in-Ok.ensures.told
    (λ w lists. ¬ HasThreads w → Outcome w b g.C.Validator.verdict (opening_by b c.args.service lists) r) word admit asks
    c.do_word.ensures.outcome

pub returns-in-Some-clause-complete : goal.returns-in-Some-clause-complete
returns-in-Some-clause-complete g c word admit asks =
    let b = g.B.Bank in
    let r = ran g.S.Source g.K.Sink (c.args.source.now, c.args.sink.now) (c.do_word.new.source, c.do_word.new.sink) c.do_word.result in
    of_found c.args.words.now c.in-Some.word c.in-Some.admit c.in-Ok.found c.in-Some.is c.in-Ok.ensures.told (λ w lists. ¬ HasThreads w → Completes w b c.args.service.bank r) word admit asks
    c.do_word.ensures.complete
