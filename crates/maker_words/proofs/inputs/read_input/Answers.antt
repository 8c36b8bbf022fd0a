use Rattle.std.proofs.Common.{◌++◌, ◌∙◌, sym, subst}
use Rattle.std.proofs.lemmas.List.{length-append}
use Rattle.tbl_outside.proofs.Streams.{read_more}
use Rattle.maker_words.specs.Inputs.{BreaksOff}
use Rattle.maker_words.proofs.Answering.{rose_later}
use Rattle.maker_words.proofs.inputs.read_input.Goals as goal

pub returns-in-Err : goal.returns-in-Err
returns-in-Err g c =
    let more = c.in-Err.ensures.reads in
    let came = read_more _ _ _ c.reads.input.list more.0 c.reads.invariant.came more.1 in
    let off = subst (BreaksOff c.in-Err.fault) (sym (length-append c.reads.input.list more.0)) more.2 in
    record {
      reads = (c.reads.input.list ++ more.0, came, off);
      failed = λ failed. rose_later _ _ _ c.reads.invariant.count (c.in-Err.ensures.failed failed);
      still = tt;
      other = λ other. c.in-Err.ensures.other other ∙ c.reads.invariant.still;
      once = λ going. c.in-Err.ensures.once (c.reads.invariant.once going);
    }
