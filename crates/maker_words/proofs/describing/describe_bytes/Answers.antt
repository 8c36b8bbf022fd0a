use Rattle.std.proofs.Common.{refl}
use Rattle.maker_words.specs.Answers.{sink_told}
use Rattle.maker_words.proofs.Answering.{tells_no_file, tells_other_length}
use Rattle.maker_words.proofs.describing.describe_bytes.Goals as goal

pub returns-in-Err-File : goal.returns-in-Err-File
returns-in-Err-File g c =
    let tells = tells_no_file c.args.shape.now c.args.file.now (sink_told g.K.Sink c.args.sink.now) c.in-Err-File.field-0 c.in-Err-File.field-0-is c.in-Err-File.ensures.fault in
    record { tells = tells; calm = λ other. refl }

pub returns-in-Err-Length : goal.returns-in-Err-Length
returns-in-Err-Length g c =
    let at = c.in-Err-Length in
    let tells = tells_other_length c.args.shape.now c.args.file.now (sink_told g.K.Sink c.args.sink.now) at.field-0 at.field-0-0 at.field-0-1 at.field-0-is at.ensures.fault in
    record { tells = tells; calm = λ other. refl }
