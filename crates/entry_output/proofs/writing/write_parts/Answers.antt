use Rattle.std.proofs.Common.{List, ℕ, subst}
use Rattle.tbl_kinds.specs.Transcript.{fields_of}
use Rattle.entry_output.specs.Writing.{TakesWhole, taken_of}
use Rattle.transcript.proofs.Around.{parts}
use Rattle.entry_output.proofs.writing.write_parts.Goals as goal

pub returns : goal.returns
returns g c =
    let whole = parts (fields_of c.args.place c.args.entry.now) c.args.around.now c.split_at.result.0.now c.bytes.result.now c.split_at.result.1.now c.requires c.split_at.ensures.front c.split_at.ensures.back c.bytes.ensures in
    subst (λ (xs : List ℕ). TakesWhole xs (taken_of g.K.Sink c.args.sink.now) (taken_of g.K.Sink c.write_pieces.new.sink) c.write_pieces.result) whole c.write_pieces.ensures
