use Rattle.std.proofs.Common.{sym, subst, ◌∙◌, ap, length}
use Rattle.tbl_kinds.specs.Transcript.{end_bytes, offset_of}
use Rattle.tbl_stream.specs.Finishing.{FinishesBy, status_of}
use Rattle.tbl_stream.specs.Standing.{way_of}
use Rattle.tbl_stream.specs.Writing.{taken_of}
use Rattle.tbl_top.proofs.SessionLemmas.{end_is}
use Rattle.tbl_top.proofs.telling.finish_crew.Goals as goal

pub returns-clause-ends : goal.returns-clause-ends
returns-clause-ends g c =
    let status = status_of c.args.standing c.args.read_failed c.args.is_whole in
    subst (λ bytes. FinishesBy (way_of c.args.standing) status c.finish.result bytes (taken_of g.K.Sink c.args.sink.now) (taken_of g.K.Sink c.finish.new.sink))
    (ap (λ n. end_bytes status (length c.history-entries.result.now) n) c.offset_of.ensures
    ∙ ap (λ es. end_bytes status (length es) (offset_of es)) c.history-entries.ensures.entries
    ∙ sym (end_is c.args.core.now.entries c.requires.each c.requires.few status))
    c.finish.ensures.ends
