use Rattle.std.proofs.Common.{[], ◌+◌, length, take, sym, ap, ◌∙◌, arith}
use Rattle.std.specs.Prelude.{true, false}
use Rattle.std.proofs.lemmas.List.{length-take}
use Rattle.std.specs.Io.KnownBytes.{prepend_known, IsAtEnd}
use Rattle.tbl_stream.proofs.ReadingLemmas.{prepend_nothing}
use Rattle.tbl_top.proofs.CollectingLemmas.{reads_nothing, reads_last}
use Rattle.tbl_top.proofs.collecting.Collector.read_piece.Goals as goal

pub returns-in-Err-clause-reads : goal.returns-in-Err-clause-reads
returns-in-Err-clause-reads g c = record {
  read = [];
  came = prepend_nothing (g.S.Source.left c.args.source.now) ∙ ap (prepend_known []) (sym c.in-Err.ensures.kept);
  takes = λ fed most pairs taken. (pairs, taken.scripts, reads_nothing fed most pairs c.args.self.now true (IsAtEnd (g.S.Source.left c.read.new.self)) (λ e. absurd cc) taken);
  input = (tt, λ e. cc);
}

pub returns-in-Ok-eq0-clause-reads : goal.returns-in-Ok-eq0-clause-reads
returns-in-Ok-eq0-clause-reads g c =
    let none = c.in-Ok-eq0 in
    record {
      read = [];
      came = none.ensures.moved ∙ ap (λ n. prepend_known (take n c.read.new.into) (g.S.Source.left c.read.new.self)) none.field-0-test;
      takes = λ fed most pairs taken. (pairs, taken.scripts, reads_nothing fed most pairs c.args.self.now false (IsAtEnd (g.S.Source.left c.read.new.self)) (λ e. none.ensures.end none.field-0-test (omega (arith, c.requires.room))) taken);
      input = (tt, λ e. cc);
    }

pub returns-in-Open-clause-reads : goal.returns-in-Open-clause-reads
returns-in-Open-clause-reads g c =
    let piece = take c.in-Ok.count c.read.new.into in
    record {
      read = piece;
      came = c.in-Ok.ensures.moved;
      takes = λ fed most pairs taken.
          let more = c.in-Open.ensures.takes fed most pairs taken in
          (omega (arith, length-take c.in-Ok.count c.read.new.into, c.in-Ok.count-test.1, c.in-Ok.ensures.fits, c.requires.room), length c.args.self.now.rest + length piece, more.0, more.1);
      input = tt;
    }

pub returns-in_default-clause-reads : goal.returns-in_default-clause-reads
returns-in_default-clause-reads g c =
    let piece = take c.in-Ok.count c.read.new.into in
    record {
      read = piece;
      came = c.in-Ok.ensures.moved;
      takes = λ fed most pairs taken.
          let more = c.feed.ensures.takes fed most pairs taken in (
            more.0,
            more.1.scripts,
            reads_last c.feed.result fed piece most pairs more.0 c.args.self.now c.feed.new.self (IsAtEnd (g.S.Source.left c.read.new.self)) c.in_default.not-Open
                (omega (arith, length-take c.in-Ok.count c.read.new.into, c.in-Ok.ensures.fits, c.requires.room)) taken more.1,
          );
      input = c.feed.ensures.input;
    }
