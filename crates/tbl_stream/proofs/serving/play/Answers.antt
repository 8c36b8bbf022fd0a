use Rattle.std.proofs.Common.{◌≡◌, eqb, arith, inl, inr, length, ap, sym, subst, ◌∙◌, [], ◌++◌}
use Rattle.tbl_core.specs.Service.{core_of}
use Rattle.tbl_session.specs.Session.{ran}
use Rattle.tbl_history.proofs.ServingLemmas.{served_of, serves_on}
use Rattle.tbl_stream.specs.Standing.{TellsWritten, way_of}
use Rattle.tbl_stream.specs.Finishing.{FinishesAs, FinishesBy, end_at, status_of}
use Rattle.tbl_stream.specs.Limits.{and_more}
use Rattle.tbl_stream.specs.Places.{end_of}
use Rattle.tbl_stream.specs.Reading.{Stops}
use Rattle.tbl_stream.specs.Reports.{Input}
use Rattle.tbl_stream.specs.Writing.{Taken}
use Rattle.tbl_stream.proofs.FailureLemmas.{failures_of, last_read}
use Rattle.tbl_stream.proofs.ReportLemmas.{reports_of}
use Rattle.tbl_stream.proofs.TellingLemmas.{end_is, front_by, lacks}
use Rattle.tbl_stream.proofs.serving.play.Goals as goal

pub returns-clause-lives : goal.returns-clause-lives
returns-clause-lives g c o serves =
    let b = g.B.Bank in
    let fresh = c.requires in
    let stream = c.read_all-read_failed.new.stream in
    let standing = stream.standing in
    let failed = c.read_all-read_failed.result in
    let reads = c.read_all-read_failed.ensures.reads in
    let cause = c.read_all-read_failed.ensures.source.cause in
    let fed = reads.fed in
    let plays = fed.plays in
    let core = core_of fed.entries stream.played.engine in
    let then = serves_on b g.C.Validator.verdict o (core_of [] c.args.stream.now.played.engine) core (plays.goes.continues []) serves in
    let whole = eqb (length stream.rest) 0 in
    let status = status_of standing failed whole in
    let r = ran g.S.Source g.K.Sink (c.args.source.now, c.args.sink.now) (c.read_all-read_failed.new.source, c.finish.new.sink) (c.finish.result, c.finish.new.self.played.engine.state.store.bank) in
    let mid : Taken = (g.K.Sink.taken c.read_all-read_failed.new.sink, g.K.Sink.faults c.read_all-read_failed.new.sink) in
    let after : Taken = (g.K.Sink.taken c.finish.new.sink, g.K.Sink.faults c.finish.new.sink) in
    let read_is : c.args.stream.now.rest ++ reads.read ≡ reads.read = ap (λ xs. xs ++ reads.read) fresh.rest in
    let written : TellsWritten standing 0 fed.entries (g.K.Sink.taken c.args.sink.now) mid.0 = subst (λ place. TellsWritten standing place fed.entries (g.K.Sink.taken c.args.sink.now) mid.0) fresh.place plays.written in
    let ends : FinishesAs standing failed whole c.finish.result (λ status. end_of status fed.entries) mid after =
    subst (λ bytes. FinishesBy (way_of standing) status c.finish.result bytes mid after)
    (end_is status stream.played fed.entries c.args.stream.now.played.place c.args.stream.now.played.offset fresh.place fresh.offset plays.place plays.offset) c.finish.ensures.finishes in
    let input : Input = record { read = reads.read; count = length fed.entries; left = stream.played.left; rest = fed.behind } in
    record {
      read = reads.read;
      came = reads.came;
      entries = fed.entries;
      rest = fed.behind;
      parts = sym read_is ∙ fed.parts;
      each = plays.each;
      left = stream.played.left;
      few = sym fresh.left ∙ plays.left;
      near = omega (arith, fed.near);
      stops = subst (λ xs. Stops c.args.limit xs) read_is (subst (λ l. Stops l (c.args.stream.now.rest ++ reads.read)) fresh.left fed.stops);
      served = rw (ap (λ s. s.played.engine.state.store.bank) c.finish.ensures.same) (served_of b g.C.Validator.verdict o core then);
      reports = reports_of b o.bank core standing input stream.rest failed r mid (ap (λ s. s.played.engine.state.store.bank) c.finish.ensures.same) then.caused fed.leaves fed.keeps
          reads.ends.ended cause plays.boot (λ is. elim (reads.full is) [ inl many ↦ inl (omega (arith, many, (plays.goes.after [] fresh.after).played)) | inr long ↦ inr long ])
          plays.count c.finish.ensures.count (front_by (way_of standing) fed.entries (g.K.Sink.taken c.args.sink.now) mid.0 written) plays.cause ends;
      lacks = lacks (way_of standing) status c.finish.result fed.entries (g.K.Sink.taken c.args.sink.now) mid after written ends;
      reads_last = last_read standing failed whole fed.entries r mid cause reads.ends.cut written ends;
      failures = failures_of standing failed whole (λ status. end_of status fed.entries) r mid cause (λ failed all. reads.ends.cut failed) plays.cause ends;
    }
