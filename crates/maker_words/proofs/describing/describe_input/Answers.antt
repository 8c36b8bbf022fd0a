use Rattle.std.proofs.Common.{refl, ◌∙◌}
use Rattle.maker_words.specs.Answers.{ComesOfFile, source_told, sink_told}
use Rattle.maker_words.proofs.Answering.{not_failed, answers_read, answers_broke, describes_only, describes_through}
use Rattle.maker_words.proofs.describing.describe_input.Goals as goal

pub returns-in-Ok : goal.returns-in-Ok
returns-in-Ok g c =
    let tells = rw c.bytes.ensures at c.describe_bytes.ensures.tells in
    let answers = answers_read (ComesOfFile c.args.shape.now) c.in-Ok.file.list _ (source_told g.S.Source c.args.source.now) (source_told g.S.Source c.read_input.new.source) (sink_told g.K.Sink c.args.sink.now) (sink_told g.K.Sink c.describe_bytes.new.sink) c.in-Ok.ensures.reads tells in
    record { answers = answers; described = describes_only c.args.shape.now _ _ _ _ _ answers; failures = record { reads = λ other. c.in-Ok.ensures.still; writes = c.describe_bytes.ensures.calm }; once = c.in-Ok.ensures.once; complete = describes_through c.args.shape.now _ _ _ _ _ answers }

pub returns-in-Err : goal.returns-in-Err
returns-in-Err g c =
    let told = answers_broke (ComesOfFile c.args.shape.now) c.in-Err.fault (source_told g.S.Source c.args.source.now) (source_told g.S.Source c.read_input.new.source) (sink_told g.K.Sink c.args.sink.now) c.in-Err.ensures.reads c.in-Err.ensures.failed in
    let answers = rw (← c.status_of.ensures) at told in
    record { answers = answers; described = describes_only c.args.shape.now _ _ _ _ _ answers; failures = record { reads = λ other. c.in-Err.ensures.other (not_failed c.in-Err.fault (λ three. other (c.status_of.ensures ∙ three))); writes = λ other. refl }; once = c.in-Err.ensures.once; complete = describes_through c.args.shape.now _ _ _ _ _ answers }
