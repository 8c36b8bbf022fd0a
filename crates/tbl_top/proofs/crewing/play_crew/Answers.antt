use Rattle.std.proofs.Common.{eqb, length, ap, ◌∙◌, sym, subst, arith, refl}
use Rattle.std.specs.Io.KnownBytes.{IsAtEnd}
use Rattle.tbl_kinds.specs.Records.{IsRecord}
use Rattle.tbl_kinds.specs.Transcript.{pairs_of}
use Rattle.tbl_session.specs.Session.{ran}
use Rattle.tbl_crew.specs.Scripts.{script_of, request_count, AllFit, OfEach}
use Rattle.tbl_crew.proofs.HistoryLemmas.{of_each}
use Rattle.tbl_session.specs.Orders.{ByActor}
use Rattle.tbl_stream.specs.Finishing.{FinishesAs}
use Rattle.tbl_stream.specs.Places.{end_of}
use Rattle.tbl_stream.specs.Writing.{taken_of}
use Rattle.tbl_stream.proofs.FailureLemmas.{failures_of}
use Rattle.tbl_top.proofs.CrewLemmas.{by_actor, none_behind, read_behind, room_behind}
use Rattle.tbl_top.proofs.ScriptsLemmas.{scripts_fit, scripts_count, scripts_each, scripts_part}
use Rattle.tbl_top.proofs.SessionLemmas.{session_of}
use Rattle.tbl_top.proofs.crewing.play_crew.Goals as goal

pub crew-core-requires-clause-live : goal.crew-core-requires-clause-live
crew-core-requires-clause-live g c lifetimes outlive = c.requires.begun.1.live

pub crew-core-requires-clause-empty : goal.crew-core-requires-clause-empty
crew-core-requires-clause-empty g c lifetimes outlive = c.requires.begun.1.empty

pub crew-core-requires-clause-fits : goal.crew-core-requires-clause-fits
crew-core-requires-clause-fits g c =
    let reads = c.read_all-read.ensures.reads in
    λ lifetimes outlive. subst AllFit (sym (c.scripts.ensures ∙ reads.scripts)) (scripts_fit reads.pairs reads.has.each)

pub crew-core-requires-clause-few : goal.crew-core-requires-clause-few
crew-core-requires-clause-few g c =
    let reads = c.read_all-read.ensures.reads in
    omega (arith, ap request_count (c.scripts.ensures ∙ reads.scripts), scripts_count reads.pairs reads.has.each, reads.has.few)

pub tell_crew-standing-requires-clause-boot : goal.tell_crew-standing-requires-clause-boot
tell_crew-standing-requires-clause-boot g c = (c.crew-core.ensures.history c.requires.begun.0 c.requires.begun.1.serves).ended

pub tell_crew-standing-requires-clause-few : goal.tell_crew-standing-requires-clause-few
tell_crew-standing-requires-clause-few g c = (c.crew-core.ensures.history c.requires.begun.0 c.requires.begun.1.serves).few

pub finish_crew-status-requires-clause-each : goal.finish_crew-status-requires-clause-each
finish_crew-status-requires-clause-each g c =
    let reads = c.read_all-read.ensures.reads in
    let one = c.crew-core.ensures.history c.requires.begun.0 c.requires.begun.1.serves in
    of_each IsRecord c.crew-core.result.1 c.scripts.result c.crew-core.result.0.entries one.played (subst (OfEach IsRecord) (sym (c.scripts.ensures ∙ reads.scripts)) (scripts_each reads.pairs reads.has.each))

pub finish_crew-status-requires-clause-few : goal.finish_crew-status-requires-clause-few
finish_crew-status-requires-clause-few g c = (c.crew-core.ensures.history c.requires.begun.0 c.requires.begun.1.serves).few

pub returns-clause-outcome : goal.returns-clause-outcome
returns-clause-outcome g c o serves =
    let b = g.B.Bank in
    let reads = c.read_all-read.ensures.reads in
    let pairs = reads.pairs in
    let scripts = c.scripts.ensures ∙ reads.scripts in
    let core = c.crew-core.result.0 in
    let fault = c.crew-core.result.1 in
    let one = c.crew-core.ensures.history o serves in
    let tells = c.tell_crew-standing in
    let told = tells.ensures.told in
    let failed = c.read_all-read.result.1 in
    let cause = c.read_all-read.ensures.source.cause in
    let read = c.read_all-read.result.0 in
    let kept = c.read_all-read.new.self.rest in
    let mid = taken_of g.K.Sink tells.new.sink in
    let has = read_behind read pairs kept reads.read failed (IsAtEnd (g.S.Source.left c.read_all-read.new.source)) reads.has fault tells.result told.behind in
    let r = ran g.S.Source g.K.Sink (c.args.source.now, c.args.sink.now) (c.read_all-read.new.source, c.finish_crew-status.new.sink) (c.finish_crew-status.result, core.state.store.bank) in
    let ends : FinishesAs tells.result failed (eqb (length kept) 0) c.finish_crew-status.result (λ status. end_of status core.entries) mid (taken_of g.K.Sink c.finish_crew-status.new.sink)
    = rw (← c.is_whole-is_whole.ensures) c.finish_crew-status.ensures.ends in (
      session_of ByActor b g.C.Validator.verdict o core tells.result pairs kept reads.read failed r mid refl reads.came
          (of_each IsRecord fault c.scripts.result core.entries one.played (subst (OfEach IsRecord) (sym scripts) (scripts_each pairs reads.has.each))) one.few one.served one.caused
          (λ all. by_actor c.finish_crew-status.result fault c.scripts.result pairs core.entries (λ actor. ap (λ s. script_of s actor) scripts ∙ scripts_part pairs reads.has.each actor) (λ ended. none_behind fault read tells.result told.behind (all ended)) one.played)
          has cause told.boot (room_behind fault read tells.result c.read_all-read.ensures.reads.input told.behind) tells.ensures.count c.finish_crew-status.ensures.count told.front told.cause ends,
      failures_of tells.result failed (eqb (length kept) 0) (λ status. end_of status core.entries) r mid cause has.cut told.cause ends,
    )
