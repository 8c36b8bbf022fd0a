use Rattle.std.proofs.Common.{subst}
use Rattle.tbl_stream.specs.Writing.{taken_of}
use Rattle.tbl_top.specs.Telling.{WroteAll}
use Rattle.tbl_top.proofs.CrewLemmas.{told_behind, told_cut}
use Rattle.tbl_top.proofs.telling.tell_crew.Goals as goal

pub returns-in-None-clause-told : goal.returns-in-None-clause-told
returns-in-None-clause-told g c =
    rw c.standing_behind.ensures (told_behind c.args.fault c.args.read c.args.core.now (taken_of g.K.Sink c.args.sink.now) (taken_of g.K.Sink c.tell_all.new.sink) c.requires.input c.requires.boot (rw (← c.history.ensures.entries) c.in-None.ensures.wrote))

pub returns-in-Some-clause-told : goal.returns-in-Some-clause-told
returns-in-Some-clause-told g c =
    told_cut c.args.fault c.args.read c.in-Some.stop c.args.core.now (taken_of g.K.Sink c.args.sink.now) (taken_of g.K.Sink c.tell_all.new.sink) (rw (← c.history.ensures.entries) c.in-Some.ensures.wrote)
