use Rattle.std.proofs.Common.{◌∙◌}
use Rattle.tbl_stream.specs.Writing.{taken_of}
use Rattle.tbl_top.proofs.TellingLemmas.{stopped_at, written_next}
use Rattle.tbl_top.proofs.telling.tell_all.Goals as goal

pub returns-in-Some-clause-wrote : goal.returns-in-Some-clause-wrote
returns-in-Some-clause-wrote g c =
    let k = g.K.Sink in
    stopped_at c.args.entries.now c.entries.place c.index-entries-place.result c.entries-test.true c.index-entries-place.is c.requires.few (taken_of k c.args.sink.now) (taken_of k c.entries.sink) (taken_of k c.write.new.sink)
    c.entries.invariant.written c.entries.invariant.still c.in-Some.stop c.in-Some.ensures.wrote

pub entries-preserved : goal.entries-preserved
entries-preserved g c =
    let k = g.K.Sink in
    let wrote = c.in_default.ensures.wrote in
    record {
      written = written_next c.args.entries.now c.entries.place c.index-entries-place.result c.entries-test.true c.index-entries-place.is c.requires.few (taken_of k c.args.sink.now) (taken_of k c.entries.sink) (taken_of k c.write.new.sink)
          c.entries.invariant.written c.entries.invariant.still wrote;
      still = wrote.1 ∙ c.entries.invariant.still;
    }
