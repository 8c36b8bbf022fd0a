use Rattle.std.proofs.Common.{ap, ◌∙◌, sym, subst, arith}
use Rattle.std.specs.Io.KnownBytes.{IsAtEnd}
use Rattle.table_watch.specs.Report.{report}
use Rattle.tbl_session.specs.Session.{ran}
use Rattle.tbl_crew.specs.Scripts.{script_of, request_count, AllFit, OfEach}
use Rattle.tbl_crew.proofs.HistoryLemmas.{of_each}
use Rattle.tbl_kinds.specs.Records.{IsRecord}
use Rattle.tbl_top.specs.Watching.{fault_of}
use Rattle.tbl_top.proofs.ScriptsLemmas.{scripts_each, scripts_fit, scripts_count, scripts_part}
use Rattle.tbl_top.proofs.WatchingLemmas.{few_played, have_played, watch_failures, watches}
use Rattle.tbl_top.proofs.CrewLemmas.{behind_way}
use Rattle.tbl_top.proofs.watching.play_watched.Goals as goal

pub crew_watched-core-requires-clause-live : goal.crew_watched-core-requires-clause-live
crew_watched-core-requires-clause-live g c lifetimes outlive = c.requires.begun.1.live

pub crew_watched-core-requires-clause-empty : goal.crew_watched-core-requires-clause-empty
crew_watched-core-requires-clause-empty g c lifetimes outlive = c.requires.begun.1.empty

pub crew_watched-core-requires-clause-fits : goal.crew_watched-core-requires-clause-fits
crew_watched-core-requires-clause-fits g c =
    let reads = c.read_all-read.ensures.reads in
    λ lifetimes outlive. subst AllFit (sym (c.scripts.ensures ∙ reads.scripts)) (scripts_fit reads.pairs reads.has.each)

pub crew_watched-core-requires-clause-few : goal.crew_watched-core-requires-clause-few
crew_watched-core-requires-clause-few g c =
    let reads = c.read_all-read.ensures.reads in
    omega (arith, ap request_count (c.scripts.ensures ∙ reads.scripts), scripts_count reads.pairs reads.has.each, reads.has.few)

pub tell_report-status-requires : goal.tell_report-status-requires
tell_report-status-requires g c =
    record { known = rw (c.standing_behind-standing.ensures, c.fault_of.ensures) (behind_way (fault_of c.crew_watched-core.result.2) c.read_all-read.result.0 c.read_all-read.ensures.reads.input) }

pub returns-clause-outcome : goal.returns-clause-outcome
returns-clause-outcome g c o serves =
    let b = g.B.Bank in
    let reads = c.read_all-read.ensures.reads in
    let pairs = reads.pairs in
    let scripts = c.scripts.ensures ∙ reads.scripts in
    let core = c.crew_watched-core.result.0 in
    let end = c.crew_watched-core.result.2 in
    let told = c.tell_report-status in (
      watches b g.C.Validator.verdict o c.scripts.result core end c.crew_watched-core.result.1 (c.crew_watched-core.ensures.history o serves)
          c.read_all-read.result.0 pairs c.read_all-read.new.self.rest reads.read c.read_all-read.result.1
          (ran g.S.Source g.K.Sink (c.args.source.now, c.args.sink.now) (c.read_all-read.new.source, told.new.sink) (told.result, core.state.store.bank))
          (λ i. core.state.store.bank) reads.came (λ actor. ap (λ s. script_of s actor) scripts ∙ scripts_part pairs reads.has.each actor) reads.has
          c.read_all-read.ensures.reads.input c.read_all-read.ensures.source.cause told.ensures.count
          (of_each IsRecord (fault_of end) c.scripts.result core.entries (have_played b g.C.Validator.verdict o c.scripts.result core end c.crew_watched-core.result.1 (c.crew_watched-core.ensures.history o serves)) (subst (OfEach IsRecord) (sym scripts) (scripts_each pairs reads.has.each)))
          (few_played b g.C.Validator.verdict o c.scripts.result core end c.crew_watched-core.result.1 (c.crew_watched-core.ensures.history o serves))
          (rw (← c.fault_of.ensures, ← c.standing_behind-standing.ensures, ← c.is_whole-is_whole.ensures) told.ensures.ends)
          told.ensures.told,
      watch_failures c.crew_watched-core.result.2 c.read_all-read.result.0 reads.pairs c.read_all-read.new.self.rest reads.read (report c.crew_watched-core.result.1) c.read_all-read.result.1 (IsAtEnd (g.S.Source.left c.read_all-read.new.source))
          (ran g.S.Source g.K.Sink (c.args.source.now, c.args.sink.now) (c.read_all-read.new.source, told.new.sink) (told.result, c.crew_watched-core.result.0.state.store.bank))
          c.read_all-read.ensures.reads.input reads.has c.read_all-read.ensures.source.cause
          (rw (← c.fault_of.ensures, ← c.standing_behind-standing.ensures, ← c.is_whole-is_whole.ensures) told.ensures.ends)
          told.ensures.told,
    )
